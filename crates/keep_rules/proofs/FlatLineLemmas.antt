-- The flat list of a document's statements matches its lines, one after another.
--
-- The lists of statements, key parts and values of a document are the lists of its lines, joined. So what a line stores
-- is a range of the whole list, with the ranges of later lines after it (`IsRangeBefore`); it is cut off from the left,
-- line by line (`range_left`, `range_right`). A keyval's values end where the next line's values begin, since the first
-- value there is a line's own (`content_starts`, `lines_start`). One line's statement matches its content
-- (`content_matches`), by induction all statements match (`lines_match`), and the one of a number is found in both
-- lists (`zip_at`).
--
-- Theorems: `statements_match`, and by number `document_matches`.
use Rattle.std.proofs.Common.{◌≡◌, ℕ, zero, suc, ◌+◌, List, [], ◌∷◌, ◌++◌, length, map, slice_get, refl, sym, ◌∙◌, ap}
use Rattle.std.proofs.Common.{subst, arith, append_assoc, Some, None}
use Rattle.std.specs.List.{filter_map, cons_option, AllZip, AllByRecursion}
use Rattle.std.proofs.lemmas.List.{append-nil, length-append}
use Rattle.keep_types.specs.declared.leaf.Profile.{Profile}
use Rattle.keep_types.specs.declared.leaf.Leaf.TheVariants as leaf
use Rattle.keep_types.specs.declared.syntax.KeyPart.{KeyPart}
use Rattle.keep_types.specs.declared.syntax.Owner.TheVariants as owner
use Rattle.keep_types.specs.declared.syntax.Start.{Start}
use Rattle.keep_types.specs.declared.syntax.Statement.{Statement}
use Rattle.keep_types.specs.declared.syntax.StatementKind.TheVariants.{KeyVal, Header, Element}
use Rattle.keep_types.specs.declared.syntax.ValueInfo.{ValueInfo}
use Rattle.keep_syntax.specs.Tree.{Written, Key, Name, Value, Content, blank, keyval, header, element, Line, Ended}
use Rattle.keep_syntax.specs.Tree.{Document, token, key_leaves, name_leaves, value_leaves, content_leaves, line_leaves}
use Rattle.keep_syntax.specs.Tree.{ended_leaves, text}
use Rattle.keep_syntax.specs.Grammar.{IsValue, IsContent, IsLine, IsEnded, IsDocument}
use Rattle.keep_syntax.specs.Numbered as syntax
use Rattle.keep_syntax.specs.Numbered.{width, key_parts, key_count, value_count, info, nested_of, nested_start}
use Rattle.keep_syntax.specs.Numbered.{entries_parts, entries_values, Count, content_start, line_start, content_parts}
use Rattle.keep_syntax.specs.Numbered.{content_values, content_statements, line_parts, line_values, line_statements}
use Rattle.keep_syntax.specs.Numbered.{next_line, first_line, over_lines}
use Rattle.keep_meaning.specs.Counts.{line_statement, statements_in}
use Rattle.keep_rules.specs.FirstKeys.{FirstKeys}
use Rattle.keep_rules.specs.FlatStatements.{LineStarts, MatchesKeys, MatchesStatement}
use Rattle.keep_rules.specs.FlatValues.{MatchesNested, MatchKeyval}
use Rattle.keep_rules.specs.NestedValues.{nested_values}
use Rattle.keep_meaning.specs.KeyText.{keys_in}
use Rattle.keep_meaning.specs.Marks as marks
use Rattle.keep_meaning.specs.Meaning.{keys_of, keyval_mentions, statement_of, line_of}
use Rattle.keep_rules.proofs.FirstKeyLemmas.{first_keys}
use Rattle.keep_rules.proofs.FlatValueLemmas.{keyval_matches}
use Rattle.keep_meaning.proofs.Shared.{IsPart, part_whole, part_left, part_right, part_placed, part_ends, part_taken}
use Rattle.keep_meaning.proofs.Shared.{Spelled, spelled_left, keys_mention, keys_within, head_spelled, content_spelled}
use Rattle.keep_meaning.proofs.Shared.{LinesSpelled, line_spelled, next_spelled, lines_spelled, length-entries_values}

-- ---- by number

get_after : {A : Type 0} (prefix rest : List A) (n : ℕ) → n ≡ length prefix
    → slice_get (prefix ++ rest) n ≡ slice_get rest 0
get_after [] rest n e = ap (slice_get rest) e
get_after (x ∷ prefix) rest zero e = absurd (omega arith)
get_after (x ∷ prefix) rest (suc n) e = get_after prefix rest n (omega arith)

-- a part of a list at its place, and what follows it
record IsRangeBefore {A : Type 0} (xs : List A) (at : ℕ) (ys rest : List A) : Type 0 where
  prefix : List A
  place : length prefix ≡ at
  whole : xs ≡ prefix ++ (ys ++ rest)

range_whole : {A : Type 0} (xs : List A) → IsRangeBefore xs 0 xs []
range_whole xs = record { prefix = []; place = refl; whole = sym (append-nil xs) }

range_left : {A : Type 0} (xs : List A) (at : ℕ) (a b rest : List A) → IsRangeBefore xs at (a ++ b) rest
    → IsRangeBefore xs at a (b ++ rest)
range_left xs at a b rest h =
    record { prefix = h.prefix; place = h.place; whole = h.whole ∙ ap (λ w. h.prefix ++ w) (append_assoc a b rest) }

range_right : {A : Type 0} (xs : List A) (at : ℕ) (a b rest : List A) → IsRangeBefore xs at (a ++ b) rest
    → IsRangeBefore xs (at + length a) b rest
range_right xs at a b rest h = record {
  prefix = h.prefix ++ a;
  place = length-append h.prefix a ∙ ap (λ n. n + length a) h.place;
  whole = h.whole ∙ ap (λ w. h.prefix ++ w) (append_assoc a b rest) ∙ sym (append_assoc h.prefix a (b ++ rest));
}

range_part : {A : Type 0} (xs : List A) (at : ℕ) (ys rest : List A) → IsRangeBefore xs at ys rest → IsPart xs at ys
range_part xs at ys rest h = record { prefix = h.prefix; after = rest; place = h.place; whole = h.whole }

-- the first element of it, and the first after it
range_first : {A : Type 0} (xs : List A) (at : ℕ) (y : A) (ys rest : List A) → IsRangeBefore xs at (y ∷ ys) rest
    → slice_get xs at ≡ Some y
range_first xs at y ys rest h =
    ap (λ zs. slice_get zs at) h.whole ∙ get_after h.prefix (y ∷ (ys ++ rest)) at (sym h.place)

range_next : {A : Type 0} (xs : List A) (at : ℕ) (ys rest : List A) (n : ℕ) → IsRangeBefore xs at ys rest
    → n ≡ at + length ys → slice_get xs n ≡ slice_get rest 0
range_next xs at ys rest n h e =
    ap (λ zs. slice_get zs n) (h.whole ∙ sym (append_assoc h.prefix ys rest))
    ∙ get_after (h.prefix ++ ys) rest n (omega (arith, e, h.place, length-append h.prefix ys))

zip_at : {A B : Type 0} (R : A → B → Type 0) (xs : List A) (ys : List B) (n : ℕ) (x : A) (y : B) → AllZip R xs ys
    → slice_get xs n ≡ Some x → slice_get ys n ≡ Some y → R x y
zip_at R [] ys n x y all e f = absurd cc
zip_at R (a ∷ xs) [] n x y all e f = absurd all
zip_at {A} {B} R (a ∷ xs) (b ∷ ys) zero x y all e f =
    subst (λ (z : A). R z y) (let same : a ≡ x = cc in same)
    (subst (λ (z : B). R a z) (let same : b ≡ y = cc in same) all.0)
zip_at R (a ∷ xs) (b ∷ ys) (suc n) x y all e f = zip_at R xs ys n x y all.1 e f

-- ---- a keyval's own value

nothing_starts : LineStarts [] 0
nothing_starts i e = absurd cc

-- the first value of further lines is a keyval's own
content_starts : (c : Count) (l : Line) (x : Content) (rest : List ValueInfo) → LineStarts rest 0
    → LineStarts (content_values (line_start c l) x ++ rest) 0
content_starts c l blank rest h = h
content_starts c l (keyval name v) rest h = λ (i : ValueInfo) e. (c.statements, owned i e)
  where
    own : ValueInfo
    own = info (line_start c l) (content_start c l + width (name_leaves name)) (key_count name.key) v.body v.nested None

    owned : (i : ValueInfo) → Some own ≡ Some i → i.owner ≡ owner.Line c.statements
    owned i e = let same : own ≡ i = cc in ap (λ (j : ValueInfo). j.owner) (sym same)
content_starts c l (header before key after) rest h = h
content_starts c l (element before key after) rest h = h

lines_start : (c : Count) (es : List Ended) (last : Line) (rest : List ValueInfo) → LineStarts rest 0
    → LineStarts (over_lines (λ c l line_end. line_values c l) c es last ++ rest) 0
lines_start c [] last rest h = content_starts c last last.content rest h
lines_start c (e ∷ es) last rest h =
    let more : List ValueInfo = over_lines (λ c l line_end. line_values c l) (next_line c e) es last in
    subst (λ (vs : List ValueInfo). LineStarts vs 0) (sym (append_assoc (line_values c e.line) more rest))
    (content_starts c e.line e.line.content (more ++ rest) (lines_start (next_line c e) es last rest h))

-- ---- one line

module _ (bytes : List ℕ) (parts : List KeyPart) (values : List ValueInfo) (profile : Profile) where
  abbrev Mentions : Statement → marks.Statement → Type 0
  Mentions st s = MatchesStatement bytes parts values st s

  keys_match : (st : Statement) (at : ℕ) (k : Key) → Spelled bytes at (key_leaves k)
      → IsPart parts st.first_key (key_parts at k) → st.keys ≡ key_count k → MatchesKeys bytes parts st (keys_of k)
  keys_match st at k text among many = record {
    keys = ap (keys_in bytes parts st.first_key) many ∙ keys_mention bytes parts at st.first_key k text among;
    some = omega (arith, many);
    within = omega (arith, many, keys_within parts at st.first_key k among);
  }

  -- a statement is that keyval, whose values begin there
  keyval_match : (p : Start) (name : Name) (v : Value) (st : Statement) → IsValue profile v
      → Spelled bytes p.at (content_leaves (keyval name v))
      → IsPart parts st.first_key (content_parts p.at (keyval name v))
      → st.first_key ≡ p.parts → st.keys ≡ key_count name.key → st.kind ≡ KeyVal → st.value ≡ Some p.values
      → (rest : List ValueInfo) → IsRangeBefore values p.values (content_values p (keyval name v)) rest
      → LineStarts rest 0 → Mentions st (marks.keyval (keyval_mentions name v))
  keyval_match p name v st is spelled among first many kind valued rest range ends =
      let at : ℕ = p.at + width (name_leaves name) in
      let own : ValueInfo = info p at (key_count name.key) v.body v.nested None in
      let i : Start = nested_of p at (key_count name.key) v.body in
      let inner : List ValueInfo = entries_values i v.nested in
      let count : length inner ≡ value_count v.nested = length-entries_values i v.nested in
      let nested : IsPart values (p.values + 1) inner =
      range_part values (p.values + 1) inner rest (range_right values p.values (own ∷ []) inner rest range) in
      let matches : MatchKeyval bytes parts p.values name v (own ∷ inner) =
      keyval_matches bytes parts profile p name v is spelled
      (part_placed parts st.first_key p.parts (content_parts p.at (keyval name v)) first among) in
      record {
        profile = profile;
        name = name;
        value = v;
        is = is;
        mentions = refl;
        kind = kind;
        keys = keys_match st p.at name.key
            (spelled_left bytes p.at (key_leaves name.key)
            (name.before ++ (token leaf.Equals (0x3D ∷ []) ++ name.after))
            (spelled_left bytes p.at (name_leaves name) (value_leaves v) spelled))
            (part_left parts st.first_key (key_parts p.at name.key) (entries_parts (nested_start at v.body) v.nested)
            among) many;
        valued = record {
          first = p.values;
          valued = valued;
          own = own;
          here = range_first values p.values own inner rest range;
          kind = matches.0.kind;
          holds = matches.0.holds;
          within = omega (arith, count, part_ends values (p.values + 1) inner nested);
          nested =
              subst (λ (vs : List ValueInfo).
              AllZip (MatchesNested bytes parts p.values) (nested_values 1 2 v.nested) vs)
              (sym (part_taken values (p.values + 1) (value_count v.nested) inner nested count)) matches.1;
          firsts =
              subst (λ (vs : List ValueInfo). FirstKeys (st.first_key + st.keys) (nested_values 1 2 v.nested) vs)
              (sym (part_taken values (p.values + 1) (value_count v.nested) inner nested count))
              (subst (λ (n : ℕ). FirstKeys n (nested_values 1 2 v.nested) inner)
              (let e : p.parts + key_count name.key ≡ st.first_key + st.keys = omega (arith, first, many) in e)
              (first_keys 1 2 i v.nested));
          next_line =
              λ next e.
              ends next (sym (range_next values p.values (own ∷ inner) rest (p.values + 1 + value_count v.nested) range
              (omega (arith, count))) ∙ e);
        };
      }

  content_matches : (c : Count) (l : Line) (line_end : ℕ) (x : Content) (sts : List Statement)
      (ss : List marks.Statement) → IsContent profile x → Spelled bytes (content_start c l) (content_leaves x)
      → IsPart parts c.parts (content_parts (content_start c l) x) → (rest : List ValueInfo)
      → IsRangeBefore values c.values (content_values (line_start c l) x) rest → LineStarts rest 0
      → AllZip Mentions sts ss
      → AllZip Mentions (content_statements c l line_end x ++ sts) (cons_option (statement_of x) ss)
  content_matches c l line_end blank sts ss is spelled among rest range ends more = more
  content_matches c l line_end (keyval name v) sts ss is spelled among rest range ends more = (
    keyval_match (line_start c l) name v (syntax.statement c l line_end KeyVal (key_count name.key) (Some c.values))
        is.1 spelled among refl refl refl refl rest range ends,
    more,
  )
  content_matches c l line_end (header before key after) sts ss is spelled among rest range ends more =
      let at : ℕ = content_start c l + 1 + width before in
      let opens : Written = record { leaf = leaf.HeadOpen; text = 0x5B ∷ [] } in
      let closes : Written = record { leaf = leaf.HeadClose; text = 0x5D ∷ [] } in (
        (
          refl,
          refl,
          keys_match (syntax.statement c l line_end Header (key_count key) None) at key
              (head_spelled bytes (content_start c l) opens closes before key after spelled) among refl,
        ),
        more,
      )
  content_matches c l line_end (element before key after) sts ss is spelled among rest range ends more =
      let at : ℕ = content_start c l + 2 + width before in
      let opens : Written = record { leaf = leaf.ElemOpen; text = 0x5B ∷ 0x5B ∷ [] } in
      let closes : Written = record { leaf = leaf.ElemClose; text = 0x5D ∷ 0x5D ∷ [] } in (
        (
          refl,
          refl,
          keys_match (syntax.statement c l line_end Element (key_count key) None) at key
              (head_spelled bytes (content_start c l) opens closes before key after spelled) among refl,
        ),
        more,
      )

  -- ---- all lines

  lines_match : (c : Count) (es : List Ended) (last : Line) → AllByRecursion (IsEnded profile) es → IsLine profile last
      → LinesSpelled bytes c.at es last
      → IsPart parts c.parts (over_lines (λ c l line_end. line_parts c l) c es last) → (rest : List ValueInfo)
      → IsRangeBefore values c.values (over_lines (λ c l line_end. line_values c l) c es last) rest → LineStarts rest 0
      → AllZip Mentions (over_lines line_statements c es last) (filter_map line_statement (map line_of es ++ last ∷ []))
  lines_match c [] last are is spelled among rest range ends =
      subst (λ (sts : List Statement). AllZip Mentions sts (filter_map line_statement (last ∷ [])))
      (append-nil (line_statements c last (c.at + width (line_leaves last))))
      (content_matches c last (c.at + width (line_leaves last)) last.content [] [] is.content
      (content_spelled bytes c last spelled) among rest range ends tt)
  lines_match c (e ∷ es) last are is spelled among rest range ends =
      let ps : List KeyPart = over_lines (λ c l line_end. line_parts c l) (next_line c e) es last in
      let vs : List ValueInfo = over_lines (λ c l line_end. line_values c l) (next_line c e) es last in
      content_matches c e.line (c.at + width (ended_leaves e)) e.line.content
      (over_lines line_statements (next_line c e) es last) (filter_map line_statement (map line_of es ++ last ∷ []))
      are.0.line.content
      (content_spelled bytes c e.line (line_spelled bytes c e es last spelled))
      (part_left parts c.parts (line_parts c e.line) ps among) (vs ++ rest)
      (range_left values c.values (line_values c e.line) vs rest range) (lines_start (next_line c e) es last rest ends)
      (lines_match (next_line c e) es last are.1 is (next_spelled bytes c e es last spelled)
      (part_right parts c.parts (line_parts c e.line) ps among) rest
      (range_right values c.values (line_values c e.line) vs rest range) ends)

-- ---- a document

-- The flat list of a document's statements matches its lines.
pub statements_match : (bytes : List ℕ) (profile : Profile) (d : Document) → IsDocument profile d → bytes ≡ text d
    → AllZip (MatchesStatement bytes (syntax.parts d) (syntax.values d)) (syntax.statements d) (statements_in d)
statements_match bytes profile d is e =
    lines_match bytes (syntax.parts d) (syntax.values d) profile (first_line d) d.ended d.last is.ended is.last
    (lines_spelled bytes d e) (part_whole (syntax.parts d)) [] (range_whole (syntax.values d)) nothing_starts

-- the statement of a number
pub document_matches : (bytes : List ℕ) (profile : Profile) (d : Document) → IsDocument profile d → bytes ≡ text d
    → (i : ℕ) (st : Statement) (s : marks.Statement)
    → slice_get (syntax.statements d) i ≡ Some st → slice_get (statements_in d) i ≡ Some s
    → MatchesStatement bytes (syntax.parts d) (syntax.values d) st s
document_matches bytes profile d is e i st s here there =
    zip_at (MatchesStatement bytes (syntax.parts d) (syntax.values d)) (syntax.statements d) (statements_in d) i st s
    (statements_match bytes profile d is e) here there
