-- The bound of growth is reached: where lines end in two bytes and the last has no newline, a further part of a table
-- takes as much.
--
-- Theorem: `growth_reached`.
use Rattle.std.proofs.Common.{ℕ, List, [], ◌∷◌, refl, inl, inr, arith, None, false}
use Rattle.std.specs.Prelude.{codes}
use Rattle.keep_types.specs.declared.leaf.Profile.{Profile}
use Rattle.keep_types.specs.declared.leaf.Profile.TheVariants.{Strict, Wide}
use Rattle.keep_types.specs.declared.leaf.Leaf.TheVariants as leaf
use Rattle.keep_token.specs.Scanning.{scalar_at}
use Rattle.keep_token.specs.Words.{word_leaf}
use Rattle.keep_syntax.specs.Limit.{standard_depth}
use Rattle.keep_syntax.specs.Tree.{Written, scalar, none, Value, Content, blank, header, Line, Document}
use Rattle.keep_syntax.specs.Grammar.{IsDocument, IsKeyPart, IsLine}
use Rattle.keep_syntax.specs.Reading.{value_of, read_one_value}
use Rattle.keep_path.specs.Path.{Part, key}
use Rattle.keep_meaning.specs.Marks.{marks}
use Rattle.keep_meaning.specs.Meaning.{mentions_in}
use Rattle.keep_meaning.specs.Rules.{ObeysRules}
use Rattle.keep_meaning.proofs.Shared.{first_fault_after-states}
use Rattle.keep_edit_spec.specs.Laws.{IsEditable, IsGivenValue, GrowthReachesBound}

abbrev word : List ℕ → Written
word text = record { leaf = leaf.BareKey; text = text }

abbrev line : Content → Line
line content = record { before = []; content = content; after = []; comment = None }

-- an empty line, and [a.b] with no newline after it
abbrev document : Document
document = record {
  bom = false;
  ended = record { line = line blank; newline = record { leaf = leaf.Newline; text = 0x0D ∷ 0x0A ∷ [] } } ∷ [];
  last = line (header [] (record {
    first = word (codes "a");
    more = record { before = []; after = []; part = word (codes "b") } ∷ [];
  }) []);
}

-- After `insert` of `true` at a.c there are an end of the line, an empty line, the header [a], and c = true.
abbrev path : List Part
path = key (codes "a") ∷ key (codes "c") ∷ []

abbrev value : Value
value = record { body = scalar (record { leaf = leaf.Boolean; text = codes "true" }); nested = none }

-- ---- the document and the value are valid in either profile

plain : (profile : Profile) → IsLine profile (line blank)
plain profile = record { before = tt; content = tt; after = refl; comment = tt }

a_part : (profile : Profile) → IsKeyPart profile (word (codes "a"))
a_part profile = (refl, (omega arith, refl))

b_part : (profile : Profile) → IsKeyPart profile (word (codes "b"))
b_part profile = (refl, (omega arith, refl))

headed : (profile : Profile) → IsLine profile document.last
headed profile = record {
  before = tt;
  content = (
    tt,
    record { first = a_part profile; more = (record { before = tt; after = tt; part = b_part profile }, tt) },
    tt,
  );
  after = tt;
  comment = tt;
}

valid : (profile : Profile) → IsDocument profile document
valid profile =
    record { ended = (record { line = plain profile; kind = refl; newline = inr refl }, tt); last = headed profile }

rules : ObeysRules (marks (mentions_in document))
rules = first_fault_after-states [] (marks (mentions_in document)) (λ i j d lt within. absurd (omega arith))

editable : (profile : Profile) → IsEditable profile standard_depth document
editable profile = record { valid = valid profile; shallow = omega arith; obeys = rules }

given : (profile : Profile) → IsGivenValue profile value
given profile =
    record { valid = record { body = (refl, inl refl); nested = tt }; obeys = λ i j d lt within. absurd (omega arith) }

pub growth_reached : GrowthReachesBound
unfolding read_one_value value_of scalar_at word_leaf
growth_reached Strict = (document, path, value, editable Strict, given Strict, refl, refl)
growth_reached Wide = (document, path, value, editable Wide, given Wide, refl, refl)
