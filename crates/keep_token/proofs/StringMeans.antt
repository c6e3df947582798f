-- A string or a bare key means one list of bytes: any two that it means are the same.
--
-- Theorem: `means_one`.
use Rattle.std.proofs.Common.{◌≡◌, ℕ, List, sym, ap, ◌∙◌}
use Rattle.keep_types.specs.declared.leaf.Profile.{Profile}
use Rattle.keep_types.specs.declared.leaf.Leaf.{Leaf}
use Rattle.keep_types.specs.declared.leaf.Leaf.TheVariants as leaf
use Rattle.keep_token.specs.Strings.{value_of, ml_value_of}
use Rattle.keep_token.specs.Leaves.{Means}
use Rattle.keep_token.proofs.StringKinds.{basic_pieces_one, literal_pieces_one, ml_basic_pieces_one}
use Rattle.keep_token.proofs.StringKinds.{ml_literal_pieces_one}

-- ---- one meaning

pub means_one : (profile : Profile) (l : Leaf) (text v w : List ℕ) → Means profile l text v → Means profile l text w
    → v ≡ w
means_one profile leaf.BareKey text v w a b = a ∙ sym b
means_one profile leaf.Basic text v w (ps, h, a) (qs, k, b) =
    a ∙ ap value_of (basic_pieces_one profile text ps qs h k) ∙ sym b
means_one profile leaf.Literal text v w (ps, h, a) (qs, k, b) =
    a ∙ ap value_of (literal_pieces_one text ps qs h k) ∙ sym b
means_one profile leaf.MlBasic text v w (ps, h, a) (qs, k, b) =
    a ∙ ap ml_value_of (ml_basic_pieces_one profile text ps qs h k) ∙ sym b
means_one profile leaf.MlLiteral text v w (ps, h, a) (qs, k, b) =
    a ∙ ap ml_value_of (ml_literal_pieces_one text ps qs h k) ∙ sym b
means_one profile _ text v w a b = absurd a
