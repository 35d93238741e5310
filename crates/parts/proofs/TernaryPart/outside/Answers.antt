use Rattle.std.proofs.Common.{rules}
use Rattle.parts.proofs.Shown.{is_outside}
use Rattle.parts.proofs.TernaryPart.outside.Goals as goal

pub returns-in_default-Void : goal.returns-in_default-Void
returns-in_default-Void c = is_outside _ _ _ (search rules)

pub returns-in-Zero-One : goal.returns-in-Zero-One
returns-in-Zero-One c = is_outside _ _ _ (search rules)

pub returns-in-One-Zero : goal.returns-in-One-Zero
returns-in-One-Zero c = is_outside _ _ _ (search rules)

pub returns-in_default : goal.returns-in_default
returns-in_default c = is_outside _ _ _ (search rules)

pub returns-in_default-2 : goal.returns-in_default-2
returns-in_default-2 c = is_outside _ _ _ (search rules)

pub returns-in_default-3 : goal.returns-in_default-3
returns-in_default-3 c = is_outside _ _ _ (search rules)
