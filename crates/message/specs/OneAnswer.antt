-- Two permitted answers of message::shown are equal: the same bytes, of the same slice, from the same offset on.
use Rattle.std.specs.Prelude.{ℕ, ◌+◌, ◌≡◌, refl, List, take, drop}
use Rattle.std.proofs.Common.{sym, ◌∙◌}
use Rattle.message.specs.Shown.{part_of}
use Rattle.message.specs.declared.Part.{Part}
use Rattle.message.specs.declared.Part.TheVariants.{Table}

-- Block: what a pointer's allocation is; a slice lies in one, from an offset on
module _ (Block : Type 0) (table-block list-block : Block) (table-offset list-offset : ℕ) (t d : List ℕ) (number place : ℕ) where
  -- the contract of message::shown, of an answer that lies in `block` from `offset` on and holds `bytes`
  pub record Shows (block : Block) (offset : ℕ) (bytes : List ℕ) : Type 0 where
    pub in_table : (a k : ℕ) → part_of t d number place ≡ Table a k → (block ≡ table-block) × (offset ≡ table-offset + a) × (bytes ≡ take k (drop a t))
    pub in_list : (a k : ℕ) → part_of t d number place ≡ Part.List a k → (block ≡ list-block) × (offset ≡ list-offset + a) × (bytes ≡ take k (drop a d))

  both : {b c : Block} {i j : ℕ} {s u : List ℕ} {b' : Block} {i' : ℕ} {s' : List ℕ}
      → (b ≡ b') × (i ≡ i') × (s ≡ s') → (c ≡ b') × (j ≡ i') × (u ≡ s') → (b ≡ c) × (i ≡ j) × (s ≡ u)
  both (x₁, x₂, x₃) (y₁, y₂, y₃) = (x₁ ∙ sym y₁, x₂ ∙ sym y₂, x₃ ∙ sym y₃)

  which : {b c : Block} {i j : ℕ} {s u : List ℕ} → Shows b i s → Shows c j u → (q : Part) → part_of t d number place ≡ q → (b ≡ c) × (i ≡ j) × (s ≡ u)
  which x y (Table a k) e = both (x.in_table a k e) (y.in_table a k e)
  which x y (Part.List a k) e = both (x.in_list a k e) (y.in_list a k e)

  pub one_part : {b c : Block} {i j : ℕ} {s u : List ℕ} → Shows b i s → Shows c j u → (b ≡ c) × (i ≡ j) × (s ≡ u)
  one_part x y = which x y (part_of t d number place) refl
