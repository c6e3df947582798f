use Rattle.std.proofs.Common.{inl, inr, refl}
use Rattle.keep_commands.proofs.answer.profile_for.Goals as goal

pub returns-in-CheckWide : goal.returns-in-CheckWide
returns-in-CheckWide c = elim c.in-CheckWide.is [ inl is ↦ rw is refl | inr is ↦ rw is.1 refl ]

pub returns-in-CheckWide-2 : goal.returns-in-CheckWide-2
returns-in-CheckWide-2 c = elim c.in-CheckWide.is [ inl is ↦ rw is refl | inr is ↦ rw is.1 refl ]
