-- What reading has found out about a table that reads, as the machine and demand 3 want it.
use Prim.Native.Nat.{ℕ, zero, suc, ◌+◌, ◌-◌, ◌*◌, ◌<◌, ◌≤◌}
use native.Mathlib.Omega.{arith}
use Rattle.std.specs.Prelude.{◌≡◌, List, [], ◌∷◌, length, ltb, eqb, Result, Ok, Err}
use Rattle.std.proofs.Math.Path.{refl, ap}
use Rattle.std.proofs.Common.{sym, subst, ◌∙◌, true≢false}
use Rattle.std.proofs.Math.Bool.{Bool, true, false}
use Rattle.std.proofs.Math.Dec.{leb}
use borrow.Author.Tests.{eq-eqb, le-leb}
use Rattle.model.specs.Tests.{all, pick_ind, trues}
use Rattle.model.specs.Numbers.{then}
use Rattle.model.specs.Packing.{packed_in}
use Rattle.model.specs.Table.{entry}
use Rattle.model.specs.Blocks.{Every}
use Rattle.model.specs.Rules.{reading}
use Rattle.model.specs.theory.Code.{Known}
use Rattle.model.specs.declared.Refusal.{Refusal}
use Rattle.model.specs.declared.Sizes.{Sizes}
use Rattle.format.specs.Format.{byte, word16, packed_at}
use Rattle.format.specs.Head.{To, sizes_at, array_at, signature_at, arrays_at, signatures_at}
use Rattle.format.specs.Layout.{sizes_of, signature_place, table_of}
use Rattle.reading.specs.Reading.{functions_at, parts_at, read_at}
use Rattle.reading.specs.theory.Limits.{read_limits}
use Rattle.reading.specs.theory.Linked.{all_read, touches}

module _ (t : List ℕ) where
  abbrev z : Sizes
  z = sizes_of t

  -- where the head's reading goes on
  abbrev Goes : ℕ → To → Type 0
  Goes q (Ok p) = p ≡ q
  Goes q (Err _) = Unit {0}

  sizes_go : Goes 4 (sizes_at t 0)
  unfolding sizes_at
  sizes_go =
      pick_ind (Goes 4) (leb (length t) 0) (λ _. tt) (λ _. pick_ind (Goes 4) (eqb (byte t 0) 1)
      (λ _. pick_ind (Goes 4) (ltb (length t - 0) 4) (λ _. tt) (λ _. pick_ind (Goes 4) (all (leb 1 (byte t 1) ∷ leb (byte t 1) 16 ∷ leb (byte t 2) 8 ∷ leb 1 (byte t 3) ∷ leb (byte t 3) 32 ∷ [])) (λ _. refl) (λ _. tt))) (λ _. tt))

  array_goes : (at : ℕ) → Goes (at + 3) (array_at t at)
  unfolding array_at
  array_goes at =
      pick_ind (Goes (at + 3)) (leb (length t) at) (λ _. tt) (λ _. pick_ind (Goes (at + 3)) (eqb (byte t at) 2)
      (λ _. pick_ind (Goes (at + 3)) (ltb (length t - at) 3) (λ _. tt) (λ _. pick_ind (Goes (at + 3)) (all (leb 1 (word16 t (at + 1)) ∷ leb (word16 t (at + 1)) 1024 ∷ [])) (λ _. refl) (λ _. tt))) (λ _. tt))

  arrays_go : (n at : ℕ) → Goes (at + 3 * n) (arrays_at t n at)
  unfolding arrays_at
  arrays_go zero at = omega arith
  arrays_go (suc n) at = go (array_at t at) (array_goes at) (arrays_go n)
    where
      move : (p : ℕ) (w : To) → p ≡ at + 3 → Goes (p + 3 * n) w → Goes (at + 3 * suc n) w
      move p (Ok q) e g = omega arith
      move p (Err _) e g = tt

      go : (w : To) → Goes (at + 3) w → ((p : ℕ) → Goes (p + 3 * n) (arrays_at t n p)) → Goes (at + 3 * suc n) (then w (arrays_at t n))
      go (Ok p) e ih = move p (arrays_at t n p) e (ih p)
      go (Err _) e ih = tt

  -- the two environments of a signature at `at` have levels in the table's slots, and nothing beside them
  abbrev pub Packs : ℕ → Type 0
  Packs at = (packed_in z.registers z.arrays (packed_at t (at + 3)) ≡ true) × (packed_in z.registers z.arrays (packed_at t (at + 10)) ≡ true)

  -- a signature that n others follow: the next one is due 17 bytes on, its environments are levels, and the entry's
  -- in status byte is 0
  abbrev Signed : ℕ → ℕ → To → Type 0
  Signed n at (Ok p) = (p ≡ at + 17) × Packs at × (n ≡ 0 → byte t (at + 3) ≡ 0)
  Signed n at (Err _) = Unit {0}

  signature_signs : (n at : ℕ) → Signed n at (signature_at z t n at)
  unfolding signature_at
  signature_signs n at =
      let fits : ℕ → Bool = λ p. packed_in z.registers z.arrays (packed_at t p) in
      pick_ind (Signed n at) (leb (length t) at) (λ _. tt) (λ _. pick_ind (Signed n at) (eqb (byte t at) 3)
      (λ _. pick_ind (Signed n at) (ltb (length t - at) 17) (λ _. tt)
      (λ _. pick_ind (Signed n at) (all (fits (at + 3) ∷ fits (at + 10) ∷ []))
      (λ f. let w = trues (fits (at + 3) ∷ fits (at + 10) ∷ []) f in
      pick_ind (Signed n at) (all (eqb n 0 ∷ leb 1 (byte t (at + 3)) ∷ [])) (λ _. tt) (λ h. (refl, (w.0, w.1.0), clear n (byte t (at + 3)) h)))
      (λ _. tt))) (λ _. tt))
    where
      clear : (n b : ℕ) → all (eqb n 0 ∷ leb 1 b ∷ []) ≡ false → n ≡ 0 → b ≡ 0
      clear n b h e = go (native.Mathlib.Decide.ℕ_discrete b 0)
        where
          go : Dec (b ≡ 0) → b ≡ 0
          go (yes q) = q
          go (no q) = let k : all (eqb n 0 ∷ leb 1 b ∷ []) ≡ true = rw (eq-eqb n 0 e, le-leb 1 b (omega arith)) in absurd (true≢false (sym k ∙ h))

  abbrev AllSigned : ℕ → ℕ → To → Type 0
  AllSigned n at (Ok p) = (1 ≤ n → byte t (at + 17 * (n - 1) + 3) ≡ 0) × ((f : ℕ) → f < n → Packs (at + 17 * f))
  AllSigned n at (Err _) = Unit {0}

  signatures_sign : (n at : ℕ) → AllSigned n at (signatures_at z t n at)
  unfolding signatures_at
  signatures_sign zero at = (λ l. absurd (omega arith), λ f l. absurd (omega arith))
  signatures_sign (suc n) at = go (signature_at z t n at) (signature_signs n at) (signatures_sign n)
    where
      more : (p : ℕ) (w : To) → p ≡ at + 17 → Packs at → (n ≡ 0 → byte t (at + 3) ≡ 0) → AllSigned n p w → AllSigned (suc n) at w
      more p (Err _) e s f h = tt
      more p (Ok q) e s f h = (λ _. last (native.Mathlib.Decide.ℕ_discrete n 0), each)
        where
          last : Dec (n ≡ 0) → byte t (at + 17 * (suc n - 1) + 3) ≡ 0
          last (yes k) = let d : at + 17 * (suc n - 1) + 3 ≡ at + 3 = omega arith in ap (byte t) d ∙ f k
          last (no k) = let d : at + 17 * (suc n - 1) + 3 ≡ p + 17 * (n - 1) + 3 = omega arith in ap (byte t) d ∙ h.0 (omega arith)

          each : (g : ℕ) → g < suc n → Packs (at + 17 * g)
          each zero l = let d : at + 17 * 0 ≡ at = omega arith in rw d s
          each (suc g) l = let d : at + 17 * suc g ≡ p + 17 * g = omega arith in rw d (h.1 g (omega arith))

      go : (w : To) → Signed n at w → ((p : ℕ) → AllSigned n p (signatures_at z t n p)) → AllSigned (suc n) at (then w (signatures_at z t n))
      go (Ok p) (e, s, f) ih = more p (signatures_at z t n p) e s f (ih p)
      go (Err _) s ih = tt

  -- what the signatures have: the entry's in status is unknown, and every one's environments are levels
  abbrev Signatures : Type 0
  Signatures = (1 ≤ z.functions → byte t (signature_place z (z.functions - 1) + 3) ≡ 0) × ((f : ℕ) → f < z.functions → Packs (signature_place z f))

  abbrev SignedAt : To → Type 0
  SignedAt (Ok p) = Signatures
  SignedAt (Err _) = Unit {0}

  rest_signed : (w v : To) (f : ℕ → To) → w ≡ v → AllSigned z.functions (4 + 3 * z.arrays) v → SignedAt (then v f)
  rest_signed w (Err _) f e s = tt
  rest_signed w (Ok p) f e s = keep (f p)
    where
      keep : (u : To) → SignedAt u
      keep (Ok q) = s
      keep (Err _) = tt

  parts_signed : SignedAt (parts_at z t)
  unfolding parts_at
  parts_signed = first (sizes_at t 0) sizes_go
    where
      third : (q : ℕ) → q ≡ 4 + 3 * z.arrays → SignedAt (then (signatures_at z t z.functions q) (functions_at z t z.functions))
      third q e = rw e (rest_signed _ (signatures_at z t z.functions (4 + 3 * z.arrays)) (functions_at z t z.functions) refl (signatures_sign z.functions (4 + 3 * z.arrays)))

      second : (p : ℕ) → p ≡ 4 → (w : To) → Goes (p + 3 * z.arrays) w → SignedAt (then w (λ q. then (signatures_at z t z.functions q) (functions_at z t z.functions)))
      second p e (Ok q) g = third q (omega arith)
      second p e (Err _) g = tt

      first : (w : To) → Goes 4 w → SignedAt (then w (λ p. then (arrays_at t z.arrays p) (λ q. then (signatures_at z t z.functions q) (functions_at z t z.functions))))
      first (Ok p) e = second p e (arrays_at t z.arrays p) (arrays_go z.arrays p)
      first (Err _) e = tt

  abbrev AnswerSigned : Result Sizes Refusal → Type 0
  AnswerSigned (Ok y) = Signatures
  AnswerSigned (Err _) = Unit {0}

  answered_signed : (w : To) → SignedAt w → AnswerSigned (then w (λ _. Ok z))
  answered_signed (Ok p) h = h
  answered_signed (Err _) h = tt

  answer_signed : AnswerSigned (read_at t)
  unfolding read_at
  answer_signed = pick_ind AnswerSigned (ltb 32768 (length t)) (λ _. tt) (λ _. answered_signed (parts_at z t) parts_signed)

  -- the environments of every signature: no slot is 3, and unused slots are 0
  pub signed : (y : Sizes) → read_at t ≡ Ok y → (f : ℕ) → f < z.functions → Packs (signature_place z f)
  signed y e = (subst AnswerSigned e answer_signed).1

  -- WHAT READING FOUND OUT
  pub known : (y : Sizes) → read_at t ≡ Ok y → Known (table_of t)
  known y e =
      let l = read_limits t y e in
      let some_function : 1 ≤ z.functions = l.1.some_function in
      let blocks : Every (table_of t) reading = λ g k. (all_read t y e g k).blocks in
      let last : entry (table_of t) < z.functions = omega arith in
      let status = (subst AnswerSigned e answer_signed).0 some_function in
      record {
        some_function = last;
        fresh = rw status;
        blocks = blocks;
        touch = touches t y e;
      }
