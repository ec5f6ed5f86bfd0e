-- The laws of rules (specs/Blocks) hold of document 01's, whatever simple records make of the environment, and of
-- reading's.
use Rattle.model.specs.Table.{Table}
use Rattle.model.specs.Levels.{Env}
use Rattle.model.specs.Blocks.{Laws}
use Rattle.model.specs.Rules.{after, typing_by, typing, reading}
use Rattle.model.specs.declared.Simple.{Simple}
use Rattle.model.proofs.Levels.{within_refl, within_trans, join_left, join_right}

pub typing_by_laws : (t : Table) (rule : Simple → Env → Env) → Laws (typing_by t rule)
typing_by_laws t rule = record {
  within_refl = within_refl t.registers t.arrays;
  within_trans = within_trans t.registers t.arrays;
  join_left = join_left t.registers t.arrays;
  join_right = join_right t.registers t.arrays;
}

pub typing_laws : (t : Table) → Laws (typing t)
typing_laws t = typing_by_laws t (after t.arrays)

pub reading_laws : Laws reading
reading_laws = record {
  within_refl = λ _. tt;
  within_trans = λ _ _ _ _ _. tt;
  join_left = λ _ _. tt;
  join_right = λ _ _. tt;
}
