-- Internal. A machine that says nothing of parts, as contracts see it.

-- the machine itself
pub record WholeView (M : Type 0) : Type 0 where
  pub machine : M
