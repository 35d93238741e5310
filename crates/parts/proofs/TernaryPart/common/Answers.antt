use Rattle.std.proofs.Common.{rules}
use Rattle.parts.proofs.Shown.{is_common}
use Rattle.parts.proofs.TernaryPart.common.Goals as goal

pub returns-in-Both-default : goal.returns-in-Both-default
returns-in-Both-default c = is_common _ _ _ (search rules)

pub returns-in-Zero-Zero : goal.returns-in-Zero-Zero
returns-in-Zero-Zero c = is_common _ _ _ (search rules)

pub returns-in-One-One : goal.returns-in-One-One
returns-in-One-One c = is_common _ _ _ (search rules)

pub returns-in_default : goal.returns-in_default
returns-in_default c = is_common _ _ _ (search rules)

pub returns-in_default-2 : goal.returns-in_default-2
returns-in_default-2 c = is_common _ _ _ (search rules)

pub returns-in_default-3 : goal.returns-in_default-3
returns-in_default-3 c = is_common _ _ _ (search rules)
