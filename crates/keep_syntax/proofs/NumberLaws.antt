-- Tokens, key parts and values of entries, one after the other, and how many there are.
--
-- Theorems: `values-join`, and its like for tokens and key parts: those of entries, and of more after them;
-- `length-values`, and its like for key parts: how many there are; `entries_end-at`: where the entries end.
use Rattle.std.proofs.Common.{◌≡◌, ℕ, suc, ◌+◌, List, [], ◌∷◌, ◌++◌, length, Option, Some, None, refl, sym, ap, ◌∙◌}
use Rattle.std.proofs.Common.{append_assoc, arith}
use Rattle.std.proofs.lemmas.List.{length-append}
use Rattle.keep_types.specs.declared.syntax.Start.{Start}
use Rattle.keep_types.specs.declared.syntax.Owner.{Owner}
use Rattle.keep_types.specs.declared.syntax.KeyPart.{KeyPart}
use Rattle.keep_types.specs.declared.syntax.ValueInfo.{ValueInfo}
use Rattle.keep_syntax.specs.Tree.{Further, Name, Entries, none, entry, Value, named_leaves, opening, closing}
use Rattle.keep_syntax.specs.Tree.{comma_leaves, entries_leaves, value_leaves}
use Rattle.keep_syntax.specs.Numbered.{width, entries_parts, value_count, part_count, name_count, named_parts}
use Rattle.keep_syntax.specs.Numbered.{further_parts, entries_values, nested_of, rest_of, entries_end, info}
use Rattle.keep_syntax.specs.Numbered.{value_start, nested_start, value_end, comma_start, entry_end, comma_place}
use Rattle.keep_syntax.specs.Reading.{join}
use Rattle.keep_syntax.proofs.GrowthLaws.{width-append}

-- starts with the same parts
pub same_start : (a b : Start) → a.at ≡ b.at → a.values ≡ b.values → a.parts ≡ b.parts → a.owner ≡ b.owner
    → a.depth ≡ b.depth → a.comma ≡ b.comma → a ≡ b
same_start a b e1 e2 e3 e4 e5 e6 =
    ap (λ (x : ℕ). record a { at = x }) e1 ∙ ap (λ (x : ℕ). record a { at = b.at; values = x }) e2
    ∙ ap (λ (x : ℕ). record a { at = b.at; values = b.values; parts = x }) e3
    ∙ ap (λ (x : Owner). record a { at = b.at; values = b.values; parts = b.parts; owner = x }) e4
    ∙ ap (λ (x : ℕ). record b { depth = x; comma = a.comma }) e5 ∙ ap (λ (x : Option ℕ). record b { comma = x }) e6

pub leaves-join : (a b : Entries) → entries_leaves (join a b) ≡ entries_leaves a ++ entries_leaves b
leaves-join none b = refl
leaves-join (entry name body nested after comma rest) b = rw (leaves-join rest b) (simp append_assoc)

-- the places after entries
pub entries_end-at : (p : Start) (es : Entries) → (entries_end p es).at ≡ p.at + width (entries_leaves es)
entries_end-at p none = omega arith
entries_end-at p (entry name body nested after comma rest) =
    let n = named_leaves name in
    let o = opening body in
    let i = entries_leaves nested in
    let c = closing body in
    let k = comma_leaves comma in
    let r = entries_leaves rest in
    omega (
      arith,
      entries_end-at (rest_of p name body nested after comma) rest,
      width-append n (o ++ (i ++ (c ++ (after ++ (k ++ r))))),
      width-append o (i ++ (c ++ (after ++ (k ++ r)))),
      width-append i (c ++ (after ++ (k ++ r))),
      width-append c (after ++ (k ++ r)),
      width-append after (k ++ r),
      width-append k r,
    )

pub entries_end-join : (p : Start) (a b : Entries) → entries_end p (join a b) ≡ entries_end (entries_end p a) b
entries_end-join p none b = refl
entries_end-join p (entry name body nested after comma rest) b =
    entries_end-join (rest_of p name body nested after comma) rest b

pub values-join : (p : Start) (a b : Entries)
    → entries_values p (join a b) ≡ entries_values p a ++ entries_values (entries_end p a) b
values-join p none b = refl
values-join p (entry name body nested after comma rest) b =
    let at = value_start p.at name in
    let head = info p at (name_count name) body nested (comma_place (comma_start p.at name body nested after) comma) in
    let ins = entries_values (nested_of p at (name_count name) body) nested in
    let q = rest_of p name body nested after comma in
    ap (λ (vs : List ValueInfo). head ∷ (ins ++ vs)) (values-join q rest b)
    ∙ ap (λ (vs : List ValueInfo). head ∷ vs)
    (sym (append_assoc ins (entries_values q rest) (entries_values (entries_end q rest) b)))

pub parts-join : (p : Start) (a b : Entries)
    → entries_parts p.at (join a b) ≡ entries_parts p.at a ++ entries_parts (entries_end p a).at b
parts-join p none b = refl
parts-join p (entry name body nested after comma rest) b =
    let ins = entries_parts (nested_start (value_start p.at name) body) nested in
    let q = rest_of p name body nested after comma in
    ap (λ (ks : List KeyPart). named_parts p.at name ++ (ins ++ ks)) (parts-join q rest b)
    ∙ sym (append_assoc (named_parts p.at name) (ins ++ entries_parts q.at rest) _
    ∙ ap (λ (ks : List KeyPart). named_parts p.at name ++ ks) (append_assoc ins (entries_parts q.at rest) _))

-- where a value ends
pub value_end-width : (at : ℕ) (v : Value) → value_end at v.body v.nested ≡ at + width (value_leaves v)
value_end-width at v =
    omega (
      arith,
      width-append (opening v.body) (entries_leaves v.nested ++ closing v.body),
      width-append (entries_leaves v.nested) (closing v.body),
    )

-- ---- how many there are

pub length-values : (p : Start) (es : Entries) → length (entries_values p es) ≡ value_count es
length-values p none = refl
length-values p (entry name body nested after comma rest) =
    let at = value_start p.at name in
    let i = nested_of p at (name_count name) body in
    let q = rest_of p name body nested after comma in
    omega (
      arith,
      length-append (entries_values i nested) (entries_values q rest),
      length-values i nested,
      length-values q rest,
    )

pub length-further : (at : ℕ) (fs : List Further) → length (further_parts at fs) ≡ length fs
length-further at [] = refl
length-further at (f ∷ fs) = ap suc (length-further (at + width f.before + 1 + width f.after + length f.part.text) fs)

pub length-named : (at : ℕ) (name : Option Name) → length (named_parts at name) ≡ name_count name
length-named at None = refl
length-named at (Some n) = ap suc (length-further (at + length n.key.first.text) n.key.more)

pub length-parts : (at : ℕ) (es : Entries) → length (entries_parts at es) ≡ part_count es
length-parts at none = refl
length-parts at (entry name body nested after comma rest) =
    let a = named_parts at name in
    let i = entries_parts (nested_start (value_start at name) body) nested in
    let r = entries_parts (entry_end at name body nested after comma) rest in
    omega (
      arith,
      length-append a (i ++ r),
      length-append i r,
      length-named at name,
      length-parts (nested_start (value_start at name) body) nested,
      length-parts (entry_end at name body nested after comma) rest,
    )

pub entries_end-values : (p : Start) (es : Entries) → (entries_end p es).values ≡ p.values + value_count es
entries_end-values p none = omega arith
entries_end-values p (entry name body nested after comma rest) =
    omega (arith, entries_end-values (rest_of p name body nested after comma) rest)

pub entries_end-parts : (p : Start) (es : Entries) → (entries_end p es).parts ≡ p.parts + part_count es
entries_end-parts p none = omega arith
entries_end-parts p (entry name body nested after comma rest) =
    omega (arith, entries_end-parts (rest_of p name body nested after comma) rest)
