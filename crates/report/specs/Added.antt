-- What a line becomes as text is added to it.
use Rattle.std.specs.Prelude.{ℕ, ◌≡◌, ◌+◌, List, length}
use Rattle.std.proofs.lemmas.List.Edits.{sets}
use Rattle.report.specs.declared.text.Line.{Line}

-- new is old with the text after it, in the same buffer
pub record Adds (old : Line) (text : List ℕ) (new : Line) : Type 0 where
  pub same_buffer : new.space.ghost_name ≡ old.space.ghost_name
  pub counted : new.length ≡ old.length + length text
  pub written : new.space.now ≡ sets old.space.now old.length text
