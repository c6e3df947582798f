-- No value has more brackets open than the limit, itself counted.
--
-- Theorems: `values_within`: in a document; `value_values_within`: in a value alone.
use Rattle.std.proofs.Common.{◌≡◌, ℕ, suc, ◌+◌, ◌≤◌, Bool, cond, List, [], ◌∷◌, ◌++◌, None, refl, sym, ap, subst, arith}
use Rattle.std.specs.List.{AllByRecursion}
use Rattle.keep_types.specs.declared.leaf.Profile.{Profile}
use Rattle.keep_types.specs.declared.syntax.ValueInfo.{ValueInfo}
use Rattle.keep_types.specs.declared.syntax.Start.{Start}
use Rattle.keep_types.specs.declared.syntax.Owner.TheVariants as owner
use Rattle.keep_syntax.specs.Tree.{Body, scalar, array, inline, Entries, none, entry, Value, Content, blank, keyval}
use Rattle.keep_syntax.specs.Tree.{header, element, Line, Ended, Document, name_leaves, around, entries_depth}
use Rattle.keep_syntax.specs.Tree.{value_depth, content_depth, lines_depth}
use Rattle.keep_syntax.specs.Grammar.{Place, place_in, IsBody, AreEntries, IsValue, IsContent, IsLine, IsEnded, Reads}
use Rattle.keep_syntax.specs.Grammar.{ReadsValue}
use Rattle.keep_syntax.specs.Numbered.{width, leaf_of, value_start, name_count, key_count, nested_of, rest_of}
use Rattle.keep_syntax.specs.Numbered.{entries_values, value_values, content_values, Count, line_start, line_values}
use Rattle.keep_syntax.specs.Numbered.{next_line, first_line, over_lines, values}
use Rattle.keep_syntax.specs.Nesting.{IsWithin}
use Rattle.keep_syntax.proofs.DeepestLaws.{open_of, closed}

abbrev pub AreWithin : ℕ → List ValueInfo → Type 0
AreWithin limit vs = AllByRecursion (IsWithin limit) vs

within-append : (limit : ℕ) (a b : List ValueInfo) → AreWithin limit a → AreWithin limit b → AreWithin limit (a ++ b)
within-append limit [] b h g = g
within-append limit (v ∷ vs) b h g = (h.0, within-append limit vs b h.1 g)

-- the value itself
body_within : (profile : Profile) (limit d : ℕ) (body : Body) (nested : Entries) → IsBody profile body
    → d + around body (entries_depth nested) ≤ limit → open_of (leaf_of body) d ≤ limit
body_within profile limit d (scalar w) nested h le =
    let e : open_of w.leaf d ≡ d = ap (λ (b : Bool). cond b (suc d) d) (closed w.leaf h.0) in
    omega (arith, e)
body_within profile limit d (array g) nested h le = omega arith
body_within profile limit d (inline g) nested h le = omega arith

-- what is inside a value is one deeper
nested_within : (profile : Profile) (limit d : ℕ) (body : Body) (nested : Entries)
    → AreEntries profile (place_in body) nested → d + around body (entries_depth nested) ≤ limit → (vs : List ValueInfo)
    → (nested ≡ none → vs ≡ []) → (suc d + entries_depth nested ≤ limit → AreWithin limit vs) → AreWithin limit vs
nested_within profile limit d (scalar w) none i le vs empty ih =
    subst (λ (x : List ValueInfo). AreWithin limit x) (sym (empty refl)) tt
nested_within profile limit d (scalar w) (entry name body nested after comma rest) i le vs empty ih = absurd i.0
nested_within profile limit d (array g) nested i le vs empty ih = ih (omega arith)
nested_within profile limit d (inline g) nested i le vs empty ih = ih (omega arith)

none_values : (p : Start) (es : Entries) → es ≡ none → entries_values p es ≡ []
none_values p es e = ap (entries_values p) e

entries_within : (profile : Profile) (limit : ℕ) (es : Entries) (place : Place) (p : Start)
    → AreEntries profile place es → p.depth + entries_depth es ≤ limit → AreWithin limit (entries_values p es)
entries_within profile limit none place p h le = tt
entries_within profile limit (entry name body nested after comma rest) place p h le =
    let at = value_start p.at name in
    let q = nested_of p at (name_count name) body in (
      body_within profile limit p.depth body nested h.1 (omega arith),
      within-append limit (entries_values q nested) (entries_values (rest_of p name body nested after comma) rest)
          (nested_within profile limit p.depth body nested h.2 (omega arith) (entries_values q nested)
          (none_values q nested) (λ k. entries_within profile limit nested (place_in body) q h.2 k))
          (entries_within profile limit rest place (rest_of p name body nested after comma) h.5 (omega arith)),
    )

value_within : (profile : Profile) (limit : ℕ) (p : Start) (at keys : ℕ) (v : Value) → IsValue profile v
    → p.depth + value_depth v ≤ limit → AreWithin limit (value_values p at keys v)
value_within profile limit p at keys v h le =
    let q = nested_of p at keys v.body in (
      body_within profile limit p.depth v.body v.nested h.body le,
      nested_within profile limit p.depth v.body v.nested h.nested le (entries_values q v.nested)
          (none_values q v.nested) (λ k. entries_within profile limit v.nested (place_in v.body) q h.nested k),
    )

content_within : (profile : Profile) (limit : ℕ) (p : Start) (c : Content) → p.depth ≡ 0 → IsContent profile c
    → content_depth c ≤ limit → AreWithin limit (content_values p c)
content_within profile limit p blank e h le = tt
content_within profile limit p (keyval n v) e h le =
    value_within profile limit p (p.at + width (name_leaves n)) (key_count n.key) v h.1 (omega (arith, e))
content_within profile limit p (header before k after) e h le = tt
content_within profile limit p (element before k after) e h le = tt

lines_within : (profile : Profile) (limit : ℕ) (c : Count) (es : List Ended) (last : Line)
    → AllByRecursion (IsEnded profile) es → IsLine profile last → lines_depth es ≤ limit
    → content_depth last.content ≤ limit
    → AreWithin limit (over_lines (λ c l line_end. line_values c l) c es last)
lines_within profile limit c [] last h k le le' =
    content_within profile limit (line_start c last) last.content refl k.content le'
lines_within profile limit c (e ∷ es) last h k le le' =
    within-append limit (line_values c e.line) (over_lines (λ c l line_end. line_values c l) (next_line c e) es last)
    (content_within profile limit (line_start c e.line) e.line.content refl h.0.line.content (omega arith))
    (lines_within profile limit (next_line c e) es last h.1 k (omega arith) le')

-- In a document.
pub values_within : (profile : Profile) (limit : ℕ) (bytes : List ℕ) (s : Document) → Reads profile limit bytes s
    → AreWithin limit (values s)
values_within profile limit bytes s h =
    lines_within profile limit (first_line s) s.ended s.last h.valid.ended h.valid.last (omega (arith, h.shallow))
    (omega (arith, h.shallow))

-- In a value alone.
pub value_values_within : (profile : Profile) (limit : ℕ) (bytes : List ℕ) (v : Value)
    → ReadsValue profile limit bytes v
    → AreWithin limit (value_values
    (record { at = 0; values = 0; parts = 0; owner = owner.Line 0; depth = 0; comma = None }) 0 0 v)
value_values_within profile limit bytes v h =
    value_within profile limit (record { at = 0; values = 0; parts = 0; owner = owner.Line 0; depth = 0; comma = None })
    0 0 v h.valid (omega (arith, h.shallow))
