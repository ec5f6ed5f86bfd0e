use Rattle.typing.proofs.rules.after_store.Goals as goal

pub returns : goal.returns
returns c = simp (c.beside_levels-others.ensures, c.level-l.ensures) at c.raised_env.ensures
