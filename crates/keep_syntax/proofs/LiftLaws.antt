-- Lines after a count are numbered as they are from 0, each place and number greater by what the count has.
--
-- Each function that numbers a part starts from a count, and adds to it. So with a greater count its answers are
-- greater by the difference. This is shown for each function in turn, from key parts (`lifted_key`) over places and
-- entries (`lifted_entries`, `lifted_values`, by induction) to the lists of one line (`lifted_line_parts`,
-- `lifted_line_values`, `lifted_line_statements`) and to what comes before the next line (`lifted_next`). `lifted_over`
-- is the induction over lines, for any of the three lists.
--
-- Theorems: `lifted_over`, with the laws of one line: `lifted_line_statements`, `lifted_line_parts`,
-- `lifted_line_values`.
use Rattle.std.proofs.Common.{◌≡◌, ℕ, suc, ◌+◌, List, [], ◌∷◌, ◌++◌, length, map, refl, sym, ap, ◌∙◌, arith, Option}
use Rattle.std.proofs.Common.{Some, None}
use Rattle.std.proofs.lemmas.List.{map-append, length-map}
use Rattle.keep_types.specs.declared.syntax.Start.{Start}
use Rattle.keep_types.specs.declared.syntax.Owner.{Owner}
use Rattle.keep_types.specs.declared.syntax.Statement.{Statement}
use Rattle.keep_types.specs.declared.syntax.StatementKind.{StatementKind}
use Rattle.keep_types.specs.declared.syntax.StatementKind.TheVariants.{KeyVal, Header, Element}
use Rattle.keep_types.specs.declared.syntax.ValueInfo.{ValueInfo}
use Rattle.keep_syntax.specs.Tree.{Written, Gap, Further, Key, Name, Body, scalar, array, inline, Entries, none, entry}
use Rattle.keep_syntax.specs.Tree.{Value, Content, blank, keyval, header, element, Line, Ended, line_leaves}
use Rattle.keep_syntax.specs.Tree.{ended_leaves, name_leaves, content_leaves}
use Rattle.keep_syntax.specs.Numbered.{span, width, part_at, further_parts, key_parts, named_parts, name_count}
use Rattle.keep_syntax.specs.Numbered.{key_count, value_start, nested_start, value_end, comma_start, entry_end}
use Rattle.keep_syntax.specs.Numbered.{entries_parts, comma_place, info, owner_in, nested_of, rest_of, entries_values}
use Rattle.keep_syntax.specs.Numbered.{value_values, content_start, line_start, content_parts, content_values}
use Rattle.keep_syntax.specs.Numbered.{content_statements, Count, statement, line_statements, line_parts, line_values}
use Rattle.keep_syntax.specs.Numbered.{next_line, over_lines}
use Rattle.keep_syntax_store.proofs.Shared.{count_is}
use Rattle.keep_syntax.proofs.LineNumberingLaws.{length-statements}
use Rattle.keep_syntax_store.specs.Lifted.{plus, lift_there, lift_owner, lift_start, lift_key, lift_statement}
use Rattle.keep_syntax_store.specs.Lifted.{lift_value}

-- ---- key parts

assoc : (a b c : ℕ) → a + b + c ≡ a + (b + c)
assoc a b c = omega arith

lifted_part : (c : Count) (at : ℕ) (w : Written) → part_at (c.at + at) w ≡ lift_key c (part_at at w)
lifted_part c at w = ap (λ n. record { leaf = w.leaf; span = span (c.at + at) n }) (assoc c.at at (length w.text))

lifted_further : (c : Count) (at : ℕ) (fs : List Further)
    → further_parts (c.at + at) fs ≡ map (lift_key c) (further_parts at fs)
lifted_further c at [] = refl
lifted_further c at (f ∷ fs) =
    let from : ℕ = at + width f.before + 1 + width f.after in
    let e : c.at + at + width f.before + 1 + width f.after ≡ c.at + from = omega arith in
    let g : c.at + from + length f.part.text ≡ c.at + (from + length f.part.text) =
    assoc c.at from (length f.part.text) in
    ap (λ n. part_at n f.part ∷ further_parts (n + length f.part.text) fs) e
    ∙ ap (λ k. k ∷ further_parts (c.at + from + length f.part.text) fs) (lifted_part c from f.part)
    ∙ ap (λ n. lift_key c (part_at from f.part) ∷ further_parts n fs) g
    ∙ ap (λ ks. lift_key c (part_at from f.part) ∷ ks) (lifted_further c (from + length f.part.text) fs)

lifted_key : (c : Count) (at : ℕ) (k : Key) → key_parts (c.at + at) k ≡ map (lift_key c) (key_parts at k)
lifted_key c at k =
    ap (λ p. p ∷ further_parts (c.at + at + length k.first.text) k.more) (lifted_part c at k.first)
    ∙ ap (λ n. lift_key c (part_at at k.first) ∷ further_parts n k.more) (assoc c.at at (length k.first.text))
    ∙ ap (λ ks. lift_key c (part_at at k.first) ∷ ks) (lifted_further c (at + length k.first.text) k.more)

lifted_named : (c : Count) (at : ℕ) (name : Option Name)
    → named_parts (c.at + at) name ≡ map (lift_key c) (named_parts at name)
lifted_named c at None = refl
lifted_named c at (Some n) = lifted_key c at n.key

-- ---- places

lifted_value_start : (b at : ℕ) (name : Option Name) → value_start (b + at) name ≡ b + value_start at name
lifted_value_start b at name = omega arith

lifted_nested : (b at : ℕ) (body : Body) → nested_start (b + at) body ≡ b + nested_start at body
lifted_nested b at body = omega arith

lifted_end : (b at : ℕ) (body : Body) (nested : Entries) → value_end (b + at) body nested ≡ b + value_end at body nested
lifted_end b at body nested = omega arith

lifted_comma : (b at : ℕ) (name : Option Name) (body : Body) (nested : Entries) (after : Gap)
    → comma_start (b + at) name body nested after ≡ b + comma_start at name body nested after
lifted_comma b at name body nested after = omega arith

lifted_entry_end : (b at : ℕ) (name : Option Name) (body : Body) (nested : Entries) (after : Gap) (comma : Option Gap)
    → entry_end (b + at) name body nested after comma ≡ b + entry_end at name body nested after comma
lifted_entry_end b at name body nested after comma = omega arith

lifted_place : (b at : ℕ) (o : Option Gap) → comma_place (b + at) o ≡ lift_there b (comma_place at o)
lifted_place b at None = refl
lifted_place b at (Some g) = refl

-- ---- entries

lifted_entries : (c : Count) (at : ℕ) (es : Entries)
    → entries_parts (c.at + at) es ≡ map (lift_key c) (entries_parts at es)
lifted_entries c at none = refl
lifted_entries c at (entry name body nested after comma rest) =
    let v : ℕ = value_start at name in
    let i : ℕ = nested_start v body in
    let r : ℕ = entry_end at name body nested after comma in
    let ei : nested_start (value_start (c.at + at) name) body ≡ c.at + i = omega arith in
    let er : entry_end (c.at + at) name body nested after comma ≡ c.at + r = omega arith in
    ap (λ n.
    named_parts (c.at + at) name ++ (entries_parts n nested
    ++ entries_parts (entry_end (c.at + at) name body nested after comma) rest)) ei
    ∙ ap (λ n. named_parts (c.at + at) name ++ (entries_parts (c.at + i) nested ++ entries_parts n rest)) er
    ∙ ap (λ ks. ks ++ (entries_parts (c.at + i) nested ++ entries_parts (c.at + r) rest)) (lifted_named c at name)
    ∙ ap (λ ks. map (lift_key c) (named_parts at name) ++ (ks ++ entries_parts (c.at + r) rest))
    (lifted_entries c i nested)
    ∙ ap (λ ks. map (lift_key c) (named_parts at name) ++ (map (lift_key c) (entries_parts i nested) ++ ks))
    (lifted_entries c r rest)
    ∙ ap (λ ks. map (lift_key c) (named_parts at name) ++ ks)
    (sym (map-append (lift_key c) (entries_parts i nested) (entries_parts r rest)))
    ∙ sym (map-append (lift_key c) (named_parts at name) (entries_parts i nested ++ entries_parts r rest))

lifted_info : (c : Count) (p : Start) (at keys : ℕ) (body : Body) (nested : Entries) (o : Option ℕ)
    → info (lift_start c p) (c.at + at) keys body nested (lift_there c.at o)
    ≡ lift_value c (info p at keys body nested o)
lifted_info c p at keys body nested o =
    let i : ValueInfo = info (lift_start c p) (c.at + at) keys body nested (lift_there c.at o) in
    ap (λ (n : ℕ). record i { span = span (c.at + at) n; whole = span (c.at + p.at) n })
    (lifted_end c.at at body nested)

lifted_owner_in : (c : Count) (body : Body) (v : ℕ) → owner_in body (c.values + v) ≡ lift_owner c (owner_in body v)
lifted_owner_in c (scalar w) v = refl
lifted_owner_in c (array first) v = refl
lifted_owner_in c (inline first) v = refl

abbrev start_with : ℕ → ℕ → ℕ → Owner → ℕ → Option ℕ → Start
start_with at values parts o depth k =
    record { at = at; values = values; parts = parts; owner = o; depth = depth; comma = k }

start_is : {at at' values values' parts parts' depth depth' : ℕ} {o o' : Owner} {k k' : Option ℕ} → at ≡ at'
    → values ≡ values' → parts ≡ parts' → o ≡ o' → depth ≡ depth' → k ≡ k'
    → start_with at values parts o depth k ≡ start_with at' values' parts' o' depth' k'
start_is a v p o d k = cc

lifted_nested_of : (c : Count) (p : Start) (at keys : ℕ) (body : Body)
    → nested_of (lift_start c p) (c.at + at) keys body ≡ lift_start c (nested_of p at keys body)
lifted_nested_of c p at keys body =
    start_is (lifted_nested c.at at body)
    (let e : suc (c.values + p.values) ≡ c.values + suc p.values = omega arith in e) (assoc c.parts p.parts keys)
    (lifted_owner_in c body p.values) refl refl

lifted_rest_of : (c : Count) (p : Start) (name : Option Name) (body : Body) (nested : Entries) (after : Gap)
    (comma : Option Gap)
    → rest_of (lift_start c p) name body nested after comma ≡ lift_start c (rest_of p name body nested after comma)
lifted_rest_of c p name body nested after comma =
    start_is (lifted_entry_end c.at p.at name body nested after comma) (omega arith) (omega arith) refl refl
    (ap (λ n. comma_place n comma) (lifted_comma c.at p.at name body nested after)
    ∙ lifted_place c.at (comma_start p.at name body nested after) comma)

pub lifted_values : (c : Count) (p : Start) (es : Entries)
    → entries_values (lift_start c p) es ≡ map (lift_value c) (entries_values p es)
lifted_values c p none = refl
lifted_values c p (entry name body nested after comma rest) =
    let q : Start = lift_start c p in
    let v : ℕ = value_start p.at name in
    let keys : ℕ = name_count name in
    let k : ℕ = comma_start p.at name body nested after in
    let i : Start = nested_of p v keys body in
    let r : Start = rest_of p name body nested after comma in
    let head : ValueInfo = info p v keys body nested (comma_place k comma) in
    let tail : List ValueInfo = entries_values (rest_of q name body nested after comma) rest in
    ap (λ n.
    info q n keys body nested (comma_place (comma_start q.at name body nested after) comma)
    ∷ (entries_values (nested_of q n keys body) nested ++ tail)) (lifted_value_start c.at p.at name)
    ∙ ap (λ n.
    info q (c.at + v) keys body nested (comma_place n comma)
    ∷ (entries_values (nested_of q (c.at + v) keys body) nested ++ tail))
    (lifted_comma c.at p.at name body nested after)
    ∙ ap (λ o.
    info q (c.at + v) keys body nested o ∷ (entries_values (nested_of q (c.at + v) keys body) nested ++ tail))
    (lifted_place c.at k comma)
    ∙ ap (λ h. h ∷ (entries_values (nested_of q (c.at + v) keys body) nested ++ tail))
    (lifted_info c p v keys body nested (comma_place k comma))
    ∙ ap (λ s. lift_value c head ∷ (entries_values s nested ++ tail)) (lifted_nested_of c p v keys body)
    ∙ ap (λ s. lift_value c head ∷ (entries_values (lift_start c i) nested ++ entries_values s rest))
    (lifted_rest_of c p name body nested after comma)
    ∙ ap (λ vs. lift_value c head ∷ (vs ++ entries_values (lift_start c r) rest)) (lifted_values c i nested)
    ∙ ap (λ vs. lift_value c head ∷ (map (lift_value c) (entries_values i nested) ++ vs)) (lifted_values c r rest)
    ∙ ap (λ vs. lift_value c head ∷ vs)
    (sym (map-append (lift_value c) (entries_values i nested) (entries_values r rest)))

lifted_value_values : (c : Count) (p : Start) (at keys : ℕ) (v : Value)
    → value_values (lift_start c p) (c.at + at) keys v ≡ map (lift_value c) (value_values p at keys v)
lifted_value_values c p at keys v =
    ap (λ h. h ∷ entries_values (nested_of (lift_start c p) (c.at + at) keys v.body) v.nested)
    (lifted_info c p at keys v.body v.nested None)
    ∙ ap (λ s. lift_value c (info p at keys v.body v.nested None) ∷ entries_values s v.nested)
    (lifted_nested_of c p at keys v.body)
    ∙ ap (λ vs. lift_value c (info p at keys v.body v.nested None) ∷ vs)
    (lifted_values c (nested_of p at keys v.body) v.nested)

-- ---- lines

lifted_content_start : (c d : Count) (l : Line) → content_start (plus c d) l ≡ c.at + content_start d l
lifted_content_start c d l = assoc c.at d.at (width l.before)

lifted_line_start : (c d : Count) (l : Line) → line_start (plus c d) l ≡ lift_start c (line_start d l)
lifted_line_start c d l = start_is (lifted_content_start c d l) refl refl refl refl refl

lifted_content_parts : (c : Count) (at : ℕ) (k : Content)
    → content_parts (c.at + at) k ≡ map (lift_key c) (content_parts at k)
lifted_content_parts c at blank = refl
lifted_content_parts c at (keyval name value) =
    let i : ℕ = nested_start (at + width (name_leaves name)) value.body in
    let e : nested_start (c.at + at + width (name_leaves name)) value.body ≡ c.at + i = omega arith in
    ap (λ n. key_parts (c.at + at) name.key ++ entries_parts n value.nested) e
    ∙ ap (λ ks. ks ++ entries_parts (c.at + i) value.nested) (lifted_key c at name.key)
    ∙ ap (λ ks. map (lift_key c) (key_parts at name.key) ++ ks) (lifted_entries c i value.nested)
    ∙ sym (map-append (lift_key c) (key_parts at name.key) (entries_parts i value.nested))
lifted_content_parts c at (header before key after) =
    ap (λ n. key_parts n key) (let e : c.at + at + 1 + width before ≡ c.at + (at + 1 + width before) = omega arith in e)
    ∙ lifted_key c (at + 1 + width before) key
lifted_content_parts c at (element before key after) =
    ap (λ n. key_parts n key) (let e : c.at + at + 2 + width before ≡ c.at + (at + 2 + width before) = omega arith in e)
    ∙ lifted_key c (at + 2 + width before) key

pub lifted_line_parts : (c d : Count) (l : Line) → line_parts (plus c d) l ≡ map (lift_key c) (line_parts d l)
lifted_line_parts c d l =
    ap (λ n. content_parts n l.content) (lifted_content_start c d l)
    ∙ lifted_content_parts c (content_start d l) l.content

lifted_content_values : (c : Count) (p : Start) (k : Content)
    → content_values (lift_start c p) k ≡ map (lift_value c) (content_values p k)
lifted_content_values c p blank = refl
lifted_content_values c p (keyval name value) =
    ap (λ n. value_values (lift_start c p) n (key_count name.key) value) (assoc c.at p.at (width (name_leaves name)))
    ∙ lifted_value_values c p (p.at + width (name_leaves name)) (key_count name.key) value
lifted_content_values c p (header before key after) = refl
lifted_content_values c p (element before key after) = refl

pub lifted_line_values : (c d : Count) (l : Line) → line_values (plus c d) l ≡ map (lift_value c) (line_values d l)
lifted_line_values c d l =
    ap (λ p. content_values p l.content) (lifted_line_start c d l) ∙ lifted_content_values c (line_start d l) l.content

lifted_statement : (c d : Count) (l : Line) (end : ℕ) (kind : StatementKind) (keys : ℕ) (o : Option ℕ)
    → statement (plus c d) l (c.at + end) kind keys (lift_there c.values o)
    ≡ lift_statement c (statement d l end kind keys o)
lifted_statement c d l end kind keys o =
    let s : Statement = statement (plus c d) l (c.at + end) kind keys (lift_there c.values o) in
    ap (λ (n : ℕ). record s { span = span n (n + width (content_leaves l.content)) }) (lifted_content_start c d l)
    ∙ (let t : Statement =
    record s { span = span (c.at + content_start d l) (c.at + content_start d l + width (content_leaves l.content)) } in
    ap (λ (n : ℕ). record t { span = span (c.at + content_start d l) n })
    (assoc c.at (content_start d l) (width (content_leaves l.content))))

pub lifted_line_statements : (c d : Count) (l : Line) (end : ℕ)
    → line_statements (plus c d) l (c.at + end) ≡ map (lift_statement c) (line_statements d l end)
lifted_line_statements c d l end = by l.content
  where
    by : (k : Content)
        → content_statements (plus c d) l (c.at + end) k ≡ map (lift_statement c) (content_statements d l end k)
    by blank = refl
    by (keyval name value) = ap (λ s. s ∷ []) (lifted_statement c d l end KeyVal (key_count name.key) (Some d.values))
    by (header before key after) = ap (λ s. s ∷ []) (lifted_statement c d l end Header (key_count key) None)
    by (element before key after) = ap (λ s. s ∷ []) (lifted_statement c d l end Element (key_count key) None)

-- lifting keeps the length
more : {A : Type 0} (n m : ℕ) (f : A → A) (xs ys : List A) → ys ≡ map f xs → n + m + length ys ≡ n + (m + length xs)
more n m f xs ys e = assoc n m (length ys) ∙ ap (λ k. n + (m + k)) (ap length e ∙ length-map xs f)

pub lifted_next : (c d : Count) (e : Ended) → next_line (plus c d) e ≡ plus c (next_line d e)
lifted_next c d e =
    count_is (assoc c.at d.at (width (ended_leaves e)))
    (ap (λ k. c.statements + d.statements + k) (length-statements (plus c d) e.line 0 (c.at + 0))
    ∙ more c.statements d.statements (lift_statement c) _ _ (lifted_line_statements c d e.line 0))
    (more c.parts d.parts (lift_key c) _ _ (lifted_line_parts c d e.line))
    (more c.values d.values (lift_value c) _ _ (lifted_line_values c d e.line))

pub lifted_over : {A : Type 0} (f : Count → Line → ℕ → List A) (lift : Count → A → A)
    → ((c d : Count) (l : Line) (end : ℕ) → f (plus c d) l (c.at + end) ≡ map (lift c) (f d l end))
    → (c d : Count) (es : List Ended) (last : Line)
    → over_lines f (plus c d) es last ≡ map (lift c) (over_lines f d es last)
lifted_over f lift h c d [] last =
    ap (λ n. f (plus c d) last n) (assoc c.at d.at (width (line_leaves last)))
    ∙ h c d last (d.at + width (line_leaves last))
lifted_over f lift h c d (e ∷ es) last =
    ap (λ n. f (plus c d) e.line n ++ over_lines f (next_line (plus c d) e) es last)
    (assoc c.at d.at (width (ended_leaves e)))
    ∙ ap (λ xs. xs ++ over_lines f (next_line (plus c d) e) es last) (h c d e.line (d.at + width (ended_leaves e)))
    ∙ ap (λ k. map (lift c) (f d e.line (d.at + width (ended_leaves e))) ++ over_lines f k es last) (lifted_next c d e)
    ∙ ap (λ xs. map (lift c) (f d e.line (d.at + width (ended_leaves e))) ++ xs)
    (lifted_over f lift h c (next_line d e) es last)
    ∙ sym (map-append (lift c) (f d e.line (d.at + width (ended_leaves e))) (over_lines f (next_line d e) es last))
