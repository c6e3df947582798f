-- Where lines are put in, the place of `insert` is that of the spot, and it lies between characters. What the code
-- requires of the spot holds: its header is one of the statements, its keyval's line has an end, and the steps that are
-- written are keys.
--
-- Theorems: `body_ready`, `line_ready`, `section_ready`; `dotted_there`: after which line, where dots lead on;
-- `section_placed_there`: after which header's body, and which lines.
use Rattle.std.proofs.Common.{◌≡◌, ℕ, ◌<◌, ◌≤◌, true, false, List, ◌∷◌, length, take, drop, slice_get, refl, sym, ap}
use Rattle.std.proofs.Common.{subst, ◌∙◌, arith, Option, Some, None, inl, inr}
use Rattle.std.specs.Prelude.{IsCharBoundary}
use Rattle.std.specs.List.{list_any}
use Rattle.std.specs.Option.{option_map, option_and_then}
use Rattle.keep_types.specs.declared.syntax.Owner.{Owner}
use Rattle.keep_types.specs.declared.syntax.Owner.TheVariants as owner
use Rattle.keep_types.specs.declared.syntax.Statement.{Statement}
use Rattle.keep_syntax.specs.Tree.{Value, Document, text}
use Rattle.keep_syntax.specs.Numbered as syntax
use Rattle.keep_path.specs.Path.{Part}
use Rattle.keep_types.specs.declared.node.Origin.{Origin}
use Rattle.keep_types.specs.declared.node.Origin.TheVariants as origin
use Rattle.keep_meaning.specs.Meaning.{mentions_in}
use Rattle.keep_edit_spec.specs.Changed as changed
use Rattle.keep_edit_spec.specs.Edits.{insert, place}
use Rattle.keep_edit_spec.specs.Look.{holder, is_index, item_number, keys_in}
use Rattle.keep_edit_spec.specs.Refusals.{refusal}
use Rattle.keep_edit_spec.proofs.Shared.{rules_of_document, IsLowPlace, IsBaseAt, IsDottedPlaced, IsThroughHeader}
use Rattle.keep_edit_spec.proofs.Shared.{IsThroughPlaced, element_placed, header_placed, headed_within, holder_prefix}
use Rattle.keep_edit_spec.proofs.Shared.{plain_rest, root_placed, through_header, through_placed, dotted_placed}
use Rattle.keep_edit_plan.specs.Reading.{limit, ProfiledText, IsTextOfTree}
use Rattle.keep_edit_plan.specs.Inserting.{IsBase, IsKeyvalSpot, is_dotted_origin, line_end_of, new_line_at, origin_of}
use Rattle.keep_edit_plan.specs.PutLines.{body_end_of, keyval_end_of, new_section_at}
use Rattle.keep_edit_plan.specs.declared.insert.Spot.TheVariants.{AfterBody, AfterLine, NewSection}
use Rattle.keep_edit_plan.proofs.RemoveCut.{low_boundary}
use Rattle.keep_edit_plan.proofs.KeysLaws.{dotted_of}

-- ---- what holds where lines are put in

-- The edit's place is this one, between characters, and the steps from that number on are keys.
pub record IsPutAt (path : List Part) (v : Value) (s : Document) (from at : ℕ) (p : changed.Place) : Type 0 where
  pub placed : place s (insert path v) ≡ p
  pub within : at ≤ length (text s)
  pub boundary : IsCharBoundary (text s) at
  pub keys : list_any is_index (drop from path) ≡ false

put_at : (path : List Part) (v : Value) (s : Document) (from at : ℕ) (p : changed.Place) → p.start ≡ at
    → IsLowPlace s (insert path v) p → list_any is_index (drop from path) ≡ false → IsPutAt path v s from at p
put_at path v s from at p start h keys = record {
  placed = h.placed;
  within = omega (arith, start, h.within);
  boundary = subst (IsCharBoundary (text s)) start (low_boundary (text s) p.start h.within h.low);
  keys = keys;
}

-- after the body of the root, or of a header
pub record IsBodyReady (path : List Part) (v : Value) (s : Document) (from : ℕ) (header : Option ℕ) : Type 0 where
  pub within : (h : ℕ) → header ≡ Some h → h < length (syntax.statements s)
  pub put : IsPutAt path v s from (body_end_of s header)
      (new_line_at s (body_end_of s header) (keys_in (drop from path)) v)

-- after the line of a keyval
pub record IsLineReady (path : List Part) (v : Value) (s : Document) (from value : ℕ) : Type 0 where
  pub at : ℕ
  pub ends : keyval_end_of s value ≡ Some at
  pub put : IsPutAt path v s from at (new_line_at s at (keys_in (drop from path)) v)

-- in a new section
pub record IsSectionReady (path : List Part) (v : Value) (s : Document) (from header : ℕ) : Type 0 where
  pub within : header < length (syntax.statements s)
  pub first : List ℕ
  pub more : List (List ℕ)
  pub table : keys_in (take from path) ≡ first ∷ more
  pub put : IsPutAt path v s from (body_end_of s (Some header))
      (new_section_at s (body_end_of s (Some header)) (keys_in (take from path)) (keys_in (drop from path)) v)

not_dotted : (p : Origin) (n : ℕ) → is_dotted_origin p ≡ false → p ≡ origin.Dotted n → ⊥
not_dotted p n h e = let k : is_dotted_origin p ≡ true = ap is_dotted_origin e in absurd cc

base_at : (a : List Part) (s : Document) (from : ℕ) → IsBase a s from → IsBaseAt s a from
base_at a s from h = record {
  within = h.within;
  base = λ n e. not_dotted (origin_of (take from a) s) n h.base e;
  dots = λ n less more. dotted_of (origin_of (take n a) s) (h.dots n less more);
}

module _ (d : ProfiledText) (path : List Part) (v : Value) (s : Document) (read : IsTextOfTree d s)
    (allowed : refusal d.profile limit s (insert path v) ≡ None)
    (no_item : item_number path (mentions_in s) ≡ None) where
  abbrev a : List Part
  a = holder path (mentions_in s)

  plain_at : (from : ℕ) → from ≡ length a → list_any is_index (drop from path) ≡ false
  plain_at from e =
      ap (λ (n : ℕ). list_any is_index (drop n path)) e
      ∙ plain_rest d.profile limit s path v read.reads.valid no_item allowed

  -- the place with the keys from that number on
  line_put : (from at : ℕ) → from ≡ length a
      → IsLowPlace s (insert path v) (new_line_at s at (keys_in (drop (length a) path)) v)
      → IsPutAt path v s from at (new_line_at s at (keys_in (drop from path)) v)
  line_put from at e h =
      put_at path v s from at (new_line_at s at (keys_in (drop from path)) v) refl
      (subst (λ (n : ℕ). IsLowPlace s (insert path v) (new_line_at s at (keys_in (drop n path)) v)) (sym e) h)
      (plain_at from e)

  pub body_ready : (from : ℕ) (header : Option ℕ) → IsKeyvalSpot a s from (AfterBody header)
      → IsBodyReady path v s from header
  body_ready from None h = record {
    within = λ n e. absurd cc;
    put = line_put from (body_end_of s None) (h.1 ∙ sym (ap (λ (l : List Part). length l) h.0))
        (root_placed d.profile limit s path v read.reads.valid no_item allowed h.0);
  }
  body_ready from (Some n) h = record {
    within =
        λ m e. let same : n ≡ m =
        cc in subst (λ (k : ℕ). k < length (syntax.statements s)) same (headed_within a s n h.0);
    put = line_put from (body_end_of s (Some n)) h.1 (elim h.0 [
      | inl e ↦ header_placed d.profile limit s path v read.reads.valid no_item allowed n e
      | inr e ↦ element_placed d.profile limit s path v read.reads.valid no_item allowed n e
    ]);
  }

  pub dotted_there : (from value : ℕ) → IsKeyvalSpot a s from (AfterLine value) → IsDottedPlaced s path v from value
  dotted_there from value h =
      dotted_placed d.profile limit s path v read.reads.valid (rules_of_document s read.obeys) no_item allowed from
      value h.0 (base_at a s from h.1) h.2

  pub line_ready : (from value : ℕ) → IsKeyvalSpot a s from (AfterLine value) → IsLineReady path v s from value
  line_ready from value h =
      let p : IsDottedPlaced s path v from value = dotted_there from value h in
      record {
        at = p.statement.line.end;
        ends = ap (option_and_then (line_end_of (syntax.statements s))) p.here ∙ by_owner p.own.owner p.line p.owned
            ∙ ap (option_map (λ (t : Statement). t.line.end)) p.there;
        put = put_at path v s from p.statement.line.end
            (new_line_at s p.statement.line.end (keys_in (drop from path)) v) refl p.placed p.keys;
      }
    where
      by_owner : (o : Owner) (n : ℕ) → o ≡ owner.Line n → elim o [
        | owner.Line n ↦ option_map (λ (t : Statement). t.line.end) (slice_get (syntax.statements s) n)
        | owner.Inline n ↦ None
        | owner.Item n ↦ None
      ] ≡ option_map (λ (t : Statement). t.line.end) (slice_get (syntax.statements s) n)
      by_owner o n e = ap (λ (o : Owner). elim o [
        | owner.Line n ↦ option_map (λ (t : Statement). t.line.end) (slice_get (syntax.statements s) n)
        | owner.Inline n ↦ None
        | owner.Item n ↦ None
      ]) e

  -- after which header's body, and which lines
  pub section_placed_there : (from header : ℕ) → IsKeyvalSpot a s from (NewSection header)
      → IsThroughPlaced s path v header
  section_placed_there from header h =
      through_placed d.profile limit s path v read.reads.valid no_item allowed header h.0

  pub section_ready : (from header : ℕ) → IsKeyvalSpot a s from (NewSection header)
      → IsSectionReady path v s from header
  section_ready from header h =
      let t : IsThroughHeader a s header = through_header a s header h.0 in
      let at : ℕ = body_end_of s (Some header) in
      let prefix : take (length a) path ≡ a = holder_prefix d.profile limit s path v read.reads.valid no_item allowed in
      record {
        within = t.within;
        first = t.first;
        more = t.more;
        table = ap (λ (n : ℕ). keys_in (take n path)) h.1 ∙ ap keys_in prefix ∙ t.keys;
        put = put_at path v s from at (new_section_at s at (keys_in (take from path)) (keys_in (drop from path)) v) refl
            (subst (λ (n : ℕ).
            IsLowPlace s (insert path v) (new_section_at s at (keys_in (take n path)) (keys_in (drop n path)) v))
            (sym h.1) (section_placed_there from header h).placed)
            (plain_at from h.1);
      }
