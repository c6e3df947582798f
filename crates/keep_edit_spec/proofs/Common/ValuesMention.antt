-- The values of a document in one list are those that its text says, one after another, each with its text and its
-- leaf.
--
-- Mentions and values are numbered in two ways that follow the same tree, so they are compared part by part. Only
-- keyvals and items mention values: what a key's prefixes and a header mention is left out (`mention_kinds-keyed`,
-- `mention_kinds-prefixes`). An entry has its own value first, then those inside (`mention_kinds-entry`). The lists are
-- then joined pairwise (`zip_join`), by induction over the entries (`entries_stated`) and over the lines
-- (`lines_stated`). That a value's text is at its place comes from the text of the part that it is in (`Spelled`).
--
-- Theorem: `values_mention`: the i-th value is the one of the i-th mention of a value.
use Rattle.std.proofs.Common.{◌≡◌, ℕ, ◌+◌, Bool, true, false, cond, List, [], ◌∷◌, ◌++◌, length, map, refl, sym, ap}
use Rattle.std.proofs.Common.{◌∙◌, subst, append_assoc, length-append, arith, Option, Some, None}
use Rattle.std.specs.Prelude.{filter, ◌==◌}
use Rattle.std.specs.List.{AllZip, AllByRecursion}
use Rattle.std.proofs.lemmas.List.{map-append, append-nil}
use Rattle.std.proofs.lemmas.List.Elements.{filter-append}
use Rattle.keep_types.specs.declared.leaf.Profile.{Profile}
use Rattle.keep_types.specs.declared.syntax.Start.{Start}
use Rattle.keep_types.specs.declared.syntax.ValueInfo.{ValueInfo}
use Rattle.keep_syntax.specs.Tree.{Written, Name, Body, Entries, none, entry, Value, Content, blank, keyval, header}
use Rattle.keep_syntax.specs.Tree.{element, Line, Ended, Document, name_leaves, named_leaves, opening, closing}
use Rattle.keep_syntax.specs.Tree.{comma_leaves, entries_leaves, value_leaves, content_leaves, text_of, text}
use Rattle.keep_syntax.specs.Tree.{value_text}
use Rattle.keep_syntax.specs.Grammar.{Place, place_in, AreEntries, IsValue, IsContent, IsLine, IsEnded, IsDocument}
use Rattle.keep_syntax.specs.Numbered as syntax
use Rattle.keep_syntax.specs.Numbered.{width, value_start, value_end, key_count, name_count, leaf_of, nested_of}
use Rattle.keep_syntax.specs.Numbered.{rest_of, entries_values, content_start, line_start, content_values, line_values}
use Rattle.keep_syntax.specs.Numbered.{over_lines, next_line, first_line}
use Rattle.keep_meaning.specs.Fact.{Fact}
use Rattle.keep_path.specs.Path.{Part, key, index}
use Rattle.keep_meaning.specs.Marks.{MentionKind, through, past, define, element as kinds_element, value, begun, passed}
use Rattle.keep_meaning.specs.Marks.{item, header as header_of, element_header, Mention, below, fact_of, Reading}
use Rattle.keep_meaning.specs.Marks.{elements_of, entered_path, passing_mentions, header_prefixes, header_path}
use Rattle.keep_meaning.specs.Marks.{statement_mentions, start}
use Rattle.keep_meaning.specs.Meaning.{key_value, further_value, keys_of, body_fact, keyed_mentions, entry_mentions}
use Rattle.keep_meaning.specs.Meaning.{entries_mentions, statement_of, line_mentions, after_line, lines_mentions}
use Rattle.keep_meaning.specs.Meaning.{line_of, mentions_in}
use Rattle.keep_meaning.specs.Counts.{is_value, one_if}
use Rattle.keep_meaning.proofs.Shared.{IsPart, Spelled, spelled_left, spelled_right, content_spelled, LinesSpelled}
use Rattle.keep_meaning.proofs.Shared.{line_spelled, next_spelled, lines_spelled, valued}
use Rattle.keep_edit_spec.proofs.Common.Texts.{text_of-append}
use Rattle.keep_edit_spec.proofs.Common.SetLaw.{tag_of, tag_stated}

-- what is said of values, in the order of the text
abbrev pub value_mention_kinds : List Mention → List MentionKind
value_mention_kinds ms = filter is_value (map (λ m. m.kind) ms)

pub mention_kinds-append : (xs ys : List Mention)
    → value_mention_kinds (xs ++ ys) ≡ value_mention_kinds xs ++ value_mention_kinds ys
mention_kinds-append xs ys =
    ap (filter is_value) (map-append (λ m. m.kind) xs ys)
    ∙ filter-append is_value (map (λ m. m.kind) xs) (map (λ m. m.kind) ys)

mentions_below : (p : List Part) (ms : List Mention) → map (λ m. m.kind) (map (below p) ms) ≡ map (λ m. m.kind) ms
mentions_below p [] = refl
mentions_below p (m ∷ ms) = ap (λ l. m.kind ∷ l) (mentions_below p ms)

pub mention_kinds-below : (p : List Part) (ms : List Mention)
    → value_mention_kinds (map (below p) ms) ≡ value_mention_kinds ms
mention_kinds-below p ms = ap (filter is_value) (mentions_below p ms)

mention_kinds-keyed : (k : List ℕ) (ks : List (List ℕ)) (ms : List Mention)
    → value_mention_kinds (keyed_mentions (k ∷ ks) ms) ≡ value_mention_kinds ms
mention_kinds-keyed k [] ms = mention_kinds-below (key k ∷ []) ms
mention_kinds-keyed k (l ∷ ks) ms =
    mention_kinds-below (key k ∷ []) (keyed_mentions (l ∷ ks) ms) ∙ mention_kinds-keyed l ks ms

-- an entry says its own value first
pub mention_kinds-entry : (n : ℕ) (name : Option Name) (f : Fact) (nested : List Mention)
    → value_mention_kinds (entry_mentions n name f nested) ≡ tag_of name f ∷ value_mention_kinds nested
mention_kinds-entry n None f nested = ap (λ l. item f ∷ l) (mention_kinds-below (index n ∷ []) nested)
mention_kinds-entry n (Some name) f nested =
    mention_kinds-keyed (key_value name.key.first) (map further_value name.key.more)
    (record { path = []; kind = value f } ∷ nested)

pub length-mention_kinds : (ms : List Mention) → length (value_mention_kinds ms) ≡ valued ms
length-mention_kinds [] = refl
length-mention_kinds (m ∷ ms) = by (is_value m.kind) (length-mention_kinds ms)
  where
    by : (b : Bool) → length (value_mention_kinds ms) ≡ valued ms
        → length (cond b (m.kind ∷ value_mention_kinds ms) (value_mention_kinds ms)) ≡ one_if b + valued ms
    by true e = omega (arith, e)
    by false e = omega (arith, e)

-- whether a mention tells a value
abbrev pub states_value : Mention → Bool
states_value m = is_value m.kind

abbrev pub value_mentions : List Mention → List Mention
value_mentions ms = filter states_value ms

pub length-mentions : (ms : List Mention) → length (value_mentions ms) ≡ valued ms
length-mentions [] = refl
length-mentions (m ∷ ms) = by (is_value m.kind) (length-mentions ms)
  where
    by : (b : Bool) → length (value_mentions ms) ≡ valued ms
        → length (cond b (m ∷ value_mentions ms) (value_mentions ms)) ≡ one_if b + valued ms
    by true e = omega (arith, e)
    by false e = omega (arith, e)

-- ---- headers

none_either : (b : Bool) (xs ys : List Mention) → value_mention_kinds xs ≡ [] → value_mention_kinds ys ≡ []
    → value_mention_kinds (cond b xs ys) ≡ []
none_either true xs ys h g = h
none_either false xs ys h g = g

mention_kinds-prefixes : (tables : List (List Part)) (at : List Part) (ks : List (List ℕ))
    → value_mention_kinds (header_prefixes tables at ks) ≡ []
mention_kinds-prefixes tables at [] = refl
mention_kinds-prefixes tables at (k ∷ []) = refl
mention_kinds-prefixes tables at (k ∷ l ∷ ks) =
    let q : List Part = at ++ key k ∷ [] in
    mention_kinds-append (passing_mentions tables q) (header_prefixes tables (entered_path tables q) (l ∷ ks))
    ∙ ap (λ (x : List MentionKind). x ++ value_mention_kinds (header_prefixes tables (entered_path tables q) (l ∷ ks)))
    (none_either (0 == elements_of q tables) (record { path = q; kind = through } ∷ [])
    (record { path = q; kind = past } ∷ record { path = entered_path tables q; kind = passed } ∷ []) refl refl)
    ∙ mention_kinds-prefixes tables (entered_path tables q) (l ∷ ks)

-- a header says no value
pub mention_kinds-header : (r : Reading) (ks : List (List ℕ))
    → value_mention_kinds (statement_mentions r (header_of ks)) ≡ []
mention_kinds-header r ks =
    mention_kinds-append (header_prefixes r.tables [] ks)
    (record { path = header_path r.tables [] ks; kind = define } ∷ [])
    ∙ ap (λ (l : List MentionKind). l ++ []) (mention_kinds-prefixes r.tables [] ks)

pub mention_kinds-element : (r : Reading) (ks : List (List ℕ))
    → value_mention_kinds (statement_mentions r (element_header ks)) ≡ []
mention_kinds-element r ks =
    let path : List Part = header_path r.tables [] ks in
    mention_kinds-append (header_prefixes r.tables [] ks)
    (record { path = path; kind = kinds_element }
    ∷ record { path = path ++ index (elements_of path r.tables) ∷ []; kind = begun } ∷ [])
    ∙ ap (λ (l : List MentionKind). l ++ []) (mention_kinds-prefixes r.tables [] ks)

-- ---- a value in the text

-- The value that is said is the one of this place: its leaf, and its text, which is there.
pub record IsStatedBy (bytes : List ℕ) (profile : Profile) (mention_kind : MentionKind) (i : ValueInfo) : Type 0 where
  pub value : Value
  pub valid : IsValue profile value
  pub fact : fact_of mention_kind ≡ Some (body_fact value.body)
  pub leaf : i.leaf ≡ leaf_of value.body
  pub here : IsPart bytes i.span.start (value_text value)
  pub end : i.span.end ≡ i.span.start + length (value_text value)

width-append : (a b : List Written) → width (a ++ b) ≡ width a + width b
width-append a b = ap length (text_of-append a b) ∙ length-append (text_of a) (text_of b)

pub value_ends : (at : ℕ) (body : Body) (nested : Entries)
    → value_end at body nested ≡ at + length (value_text (record { body = body; nested = nested }))
value_ends at body nested =
    omega (
      arith,
      width-append (opening body) (entries_leaves nested ++ closing body),
      width-append (entries_leaves nested) (closing body),
    )

value_spelled : (bytes : List ℕ) (at : ℕ) (body : Body) (nested : Entries) (rest : List Written)
    → Spelled bytes at (opening body ++ (entries_leaves nested ++ (closing body ++ rest)))
    → IsPart bytes at (value_text (record { body = body; nested = nested }))
value_spelled bytes at body nested rest h =
    let v : Value = record { body = body; nested = nested } in
    let e : opening body ++ (entries_leaves nested ++ (closing body ++ rest)) ≡ value_leaves v ++ rest =
    simp append_assoc in
    spelled_left bytes at (value_leaves v) rest (subst (Spelled bytes at) e h)

pub zip_join : {A B : Type 0} (R : A → B → Type 0) (xs zs : List A) (ys ws : List B) → AllZip R xs ys → AllZip R zs ws
    → AllZip R (xs ++ zs) (ys ++ ws)
zip_join R [] zs [] ws h g = g
zip_join R [] zs (y ∷ ys) ws h g = absurd h
zip_join R (x ∷ xs) zs [] ws h g = absurd h
zip_join R (x ∷ xs) zs (y ∷ ys) ws h g = (h.0, zip_join R xs zs ys ws h.1 g)

module _ (bytes : List ℕ) (profile : Profile) where
  abbrev RowOutcome : MentionKind → ValueInfo → Type 0
  RowOutcome = IsStatedBy bytes profile

  -- ---- entries

  entries_stated : (place : Place) (n : ℕ) (p : Start) (es : Entries) → AreEntries profile place es
      → Spelled bytes p.at (entries_leaves es)
      → AllZip RowOutcome (value_mention_kinds (entries_mentions n es)) (entries_values p es)
  entries_stated place n p none are spelled = tt
  entries_stated place n p (entry name body nested after comma rest) are spelled =
      let at : ℕ = value_start p.at name in
      let i : Start = nested_of p at (name_count name) body in
      let r : Start = rest_of p name body nested after comma in
      let first : List Mention = entry_mentions n name (body_fact body) (entries_mentions 0 nested) in
      let further : List Written = entries_leaves rest in
      let past_value : List Written = after ++ (comma_leaves comma ++ further) in
      let closed : List Written = closing body ++ past_value in
      let opened : List Written = opening body ++ (entries_leaves nested ++ closed) in
      let at_value : Spelled bytes at opened = spelled_right bytes p.at (named_leaves name) opened spelled in
      let at_nested : Spelled bytes i.at (entries_leaves nested ++ closed) =
      spelled_right bytes at (opening body) (entries_leaves nested ++ closed) at_value in
      let at_closing : Spelled bytes (i.at + width (entries_leaves nested)) closed =
      spelled_right bytes i.at (entries_leaves nested) closed at_nested in
      let at_after = spelled_right bytes (i.at + width (entries_leaves nested)) (closing body) past_value at_closing in
      let at_comma =
      spelled_right bytes (i.at + width (entries_leaves nested) + width (closing body)) after
      (comma_leaves comma ++ further) at_after in
      let at_rest : Spelled bytes r.at further =
      spelled_right bytes (i.at + width (entries_leaves nested) + width (closing body) + width after)
      (comma_leaves comma) further at_comma in
      let mentioned : value_mention_kinds (first ++ entries_mentions (n + 1) rest) ≡ tag_of name (body_fact body)
      ∷ (value_mention_kinds (entries_mentions 0 nested) ++ value_mention_kinds (entries_mentions (n + 1) rest)) =
      mention_kinds-append first (entries_mentions (n + 1) rest)
      ∙ ap (λ l. l ++ value_mention_kinds (entries_mentions (n + 1) rest))
      (mention_kinds-entry n name (body_fact body) (entries_mentions 0 nested)) in
      subst (λ (l : List MentionKind). AllZip RowOutcome l (entries_values p (entry name body nested after comma rest)))
      (sym mentioned) (
        record {
          value = record { body = body; nested = nested };
          valid = record { body = are.1; nested = are.2 };
          fact = tag_stated name (body_fact body);
          leaf = refl;
          here = value_spelled bytes at body nested past_value at_value;
          end = value_ends at body nested;
        },
        zip_join RowOutcome (value_mention_kinds (entries_mentions 0 nested))
            (value_mention_kinds (entries_mentions (n + 1) rest)) (entries_values i nested) (entries_values r rest)
            (entries_stated (place_in body) 0 i nested are.2
            (spelled_left bytes i.at (entries_leaves nested) closed at_nested))
            (entries_stated place (n + 1) r rest are.5 at_rest),
      )

  -- ---- lines

  content_stated : (r : Reading) (p : Start) (c : Content) → IsContent profile c → Spelled bytes p.at (content_leaves c)
      → AllZip RowOutcome (value_mention_kinds (elim (statement_of c) [ None ↦ [] | Some s ↦ statement_mentions r s ]))
      (content_values p c)
  content_stated r p blank is spelled = tt
  content_stated r p (keyval name v) is spelled =
      let at : ℕ = p.at + width (name_leaves name) in
      let i : Start = nested_of p at (key_count name.key) v.body in
      let closed : List Written = entries_leaves v.nested ++ closing v.body in
      let at_value : Spelled bytes at (opening v.body ++ closed) =
      spelled_right bytes p.at (name_leaves name) (opening v.body ++ closed) spelled in
      let at_nested : Spelled bytes i.at closed = spelled_right bytes at (opening v.body) closed at_value in
      let mentioned : value_mention_kinds
      (map (below r.body) (entry_mentions 0 (Some name) (body_fact v.body) (entries_mentions 0 v.nested)))
      ≡ value (body_fact v.body) ∷ value_mention_kinds (entries_mentions 0 v.nested) =
      mention_kinds-below r.body (entry_mentions 0 (Some name) (body_fact v.body) (entries_mentions 0 v.nested))
      ∙ mention_kinds-entry 0 (Some name) (body_fact v.body) (entries_mentions 0 v.nested) in
      subst (λ (l : List MentionKind). AllZip RowOutcome l (content_values p (keyval name v))) (sym mentioned) (
        record {
          value = v;
          valid = is.1;
          fact = refl;
          leaf = refl;
          here = at_value;
          end = value_ends at v.body v.nested;
        },
        entries_stated (place_in v.body) 0 i v.nested is.1.nested
            (spelled_left bytes i.at (entries_leaves v.nested) (closing v.body) at_nested),
      )
  content_stated r p (header before k suffix) is spelled =
      subst (λ (l : List MentionKind). AllZip RowOutcome l []) (sym (mention_kinds-header r (keys_of k))) tt
  content_stated r p (element before k suffix) is spelled =
      subst (λ (l : List MentionKind). AllZip RowOutcome l []) (sym (mention_kinds-element r (keys_of k))) tt

  line_stated : (r : Reading) (c : syntax.Count) (l : Line) → IsLine profile l
      → Spelled bytes (content_start c l) (content_leaves l.content)
      → AllZip RowOutcome (value_mention_kinds (line_mentions r l)) (line_values c l)
  line_stated r c l is spelled = content_stated r (line_start c l) l.content is.content spelled

  lines_stated : (r : Reading) (c : syntax.Count) (es : List Ended) (last : Line) → AllByRecursion (IsEnded profile) es
      → IsLine profile last → LinesSpelled bytes c.at es last
      → AllZip RowOutcome (value_mention_kinds (lines_mentions r (map line_of es ++ last ∷ [])))
      (over_lines (λ c l line_end. line_values c l) c es last)
  lines_stated r c [] last are is spelled =
      subst (λ (l : List MentionKind). AllZip RowOutcome l (line_values c last))
      (ap value_mention_kinds (sym (append-nil (line_mentions r last))))
      (line_stated r c last is (content_spelled bytes c last spelled))
  lines_stated r c (e ∷ es) last are is spelled =
      let rest : List Mention = lines_mentions (after_line r e.line) (map line_of es ++ last ∷ []) in
      let more : List ValueInfo = over_lines (λ c l line_end. line_values c l) (next_line c e) es last in
      subst (λ (l : List MentionKind). AllZip RowOutcome l (line_values c e.line ++ more))
      (sym (mention_kinds-append (line_mentions r e.line) rest))
      (zip_join RowOutcome (value_mention_kinds (line_mentions r e.line)) (value_mention_kinds rest)
      (line_values c e.line) more
      (line_stated r c e.line are.0.line (content_spelled bytes c e.line (line_spelled bytes c e es last spelled)))
      (lines_stated (after_line r e.line) (next_line c e) es last are.1 is (next_spelled bytes c e es last spelled)))

-- The values of a document in one list are those that its text says.
pub values_mention : (profile : Profile) (s : Document) → IsDocument profile s
    → AllZip (IsStatedBy (text s) profile) (value_mention_kinds (mentions_in s)) (syntax.values s)
values_mention profile s is =
    lines_stated (text s) profile start (first_line s) s.ended s.last is.ended is.last (lines_spelled (text s) s refl)
