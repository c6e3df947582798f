-- The definitions on a worked row: a = [1, {b = 2}]
--
-- Each row is a theorem of its own.
use Rattle.std.proofs.Common.{◌≡◌, ℕ, false, [], ◌∷◌, map, Some, None, refl}
use Rattle.std.specs.Prelude.{codes}
use Rattle.keep_types.specs.declared.leaf.Leaf.TheVariants as leaf
use Rattle.keep_types.specs.declared.syntax.Owner.TheVariants as owner
use Rattle.keep_types.specs.declared.syntax.StatementKind.TheVariants.{KeyVal}
use Rattle.keep_syntax.specs.Tree.{Written, Gap, Name, scalar, array, inline, none, entry, keyval, Document, text}
use Rattle.keep_syntax.specs.Tree.{depth}
use Rattle.keep_syntax.specs.Numbered.{span, values, statements, parts, tokens}

abbrev space : Gap
space = record { leaf = leaf.Ws; text = 32 ∷ [] } ∷ []

abbrev name : ℕ → Name
name c =
    record {
      key = record { first = record { leaf = leaf.BareKey; text = c ∷ [] }; more = [] };
      before = space;
      after = space;
    }

abbrev number : ℕ → Written
number c = record { leaf = leaf.Integer; text = c ∷ [] }

abbrev tree : Document
tree = record {
  bom = false;
  ended = [];
  last = record {
    before = [];
    content =
        keyval (name 97) (record {
          body = array [];
          nested =
              entry None (scalar (number 49)) none [] (Some space)
              (entry None (inline []) (entry (Some (name 98)) (scalar (number 50)) none [] None none) [] None none);
        });
    after = [];
    comment = None;
  };
}

row_text : text tree ≡ codes "a = [1, {b = 2}]"
row_text = refl

row_depth : depth tree ≡ 2
row_depth = refl

row_values : values tree ≡
    record {
      leaf = leaf.ArrayOpen;
      span = span 4 16;
      whole = span 0 16;
      owner = owner.Line 0;
      depth = 0;
      first_key = 0;
      keys = 1;
      comma_before = None;
      comma_after = None;
    }
    ∷ record {
      leaf = leaf.Integer;
      span = span 5 6;
      whole = span 5 6;
      owner = owner.Item 0;
      depth = 1;
      first_key = 1;
      keys = 0;
      comma_before = None;
      comma_after = Some 6;
    }
    ∷ record {
      leaf = leaf.InlineOpen;
      span = span 8 15;
      whole = span 8 15;
      owner = owner.Item 0;
      depth = 1;
      first_key = 1;
      keys = 0;
      comma_before = Some 6;
      comma_after = None;
    }
    ∷ record {
      leaf = leaf.Integer;
      span = span 13 14;
      whole = span 9 14;
      owner = owner.Inline 2;
      depth = 2;
      first_key = 1;
      keys = 1;
      comma_before = None;
      comma_after = None;
    }
    ∷ []
row_values = refl

row_statements : statements tree
    ≡ record { kind = KeyVal; span = span 0 16; line = span 0 16; first_key = 0; keys = 1; value = Some 0 } ∷ []
row_statements = refl

row_parts : map (λ p. p.span) (parts tree) ≡ span 0 1 ∷ span 9 10 ∷ []
row_parts = refl

row_tokens : map (λ p. p.at) (tokens tree) ≡ 0 ∷ 1 ∷ 2 ∷ 3 ∷ 4 ∷ 5 ∷ 6 ∷ 7 ∷ 8 ∷ 9 ∷ 10 ∷ 11 ∷ 12 ∷ 13 ∷ 14 ∷ 15 ∷ 16
    ∷ []
row_tokens = refl
