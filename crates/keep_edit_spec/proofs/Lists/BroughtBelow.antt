-- An insert that brings the header of its table brings it at the end of the text after another header came there that
-- goes through the table.
--
-- The table's path is by keys alone, so the last header that goes through the table goes through each beginning of its
-- path (`way_said`), and by the rules none of these is an array of tables (`no_array`). So the other header, whose keys
-- are those of the table's path and more, goes through the table, too (`way_goes`), and says nothing else of it
-- (`no_path`). Only the last line comes after it, which is blank. So it is the last header that goes through the table,
-- and its body ends at the end of the text (`there`), where the same lines come (BroughtAgain).
--
-- Theorems: `brings_below_table`, `brings_below_element`.
use Rattle.std.proofs.Common.{◌≡◌, ℕ, suc, ◌+◌, ◌-◌, Bool, cond, true, false, ◌&&◌, List, [], ◌∷◌, ◌++◌, length, map}
use Rattle.std.proofs.Common.{drop, refl, sym, ap, ap₂, subst, ◌∙◌, append_assoc, length-append, arith, Option, Some}
use Rattle.std.proofs.Common.{None, inl}
use Rattle.std.specs.Prelude.{◌==◌}
use Rattle.std.proofs.lemmas.List.{append-nil, length-map, take_all}
use Rattle.std.proofs.lemmas.List.Elements.{filter_map-append}
use Rattle.keep_types.specs.declared.leaf.Profile.{Profile}
use Rattle.keep_syntax.specs.Tree.{Content, Document, Ended, Line, Value, blank, bom_leaves, element, header}
use Rattle.keep_syntax.specs.Tree.{text, text_of}
use Rattle.keep_path.specs.Path.{Part, index, key}
use Rattle.keep_meaning.specs.Marks as marks_of
use Rattle.keep_meaning.specs.Marks.{Mention, Reading, begun, define, elements_of, entered_path, header_path}
use Rattle.keep_meaning.specs.Marks.{header_prefixes, marks, passed, passing_mentions, past, start, statement_mentions}
use Rattle.keep_meaning.specs.Marks.{through}
use Rattle.keep_meaning.specs.Meaning.{after_line, line_mentions, line_of, lines, lines_mentions, mentions_in}
use Rattle.keep_meaning.specs.Meaning.{reading_after_lines}
use Rattle.keep_meaning.specs.Nodes.{has, is_element, is_node, is_through}
use Rattle.keep_meaning.specs.Rules.{Allows}
use Rattle.keep_edit_spec.specs.AddedLines.{first_new}
use Rattle.keep_edit_spec.specs.BroughtHeaders.{BringsHeader, StillBrings}
use Rattle.keep_edit_spec.specs.Changed.{Changed, Place}
use Rattle.keep_edit_spec.specs.ClearedLines.{line_start}
use Rattle.keep_edit_spec.specs.Edits.{changed_or_same, key_with}
use Rattle.keep_edit_spec.specs.HeadersBelow.{GoThrough, StillBringsBelowElement, StillBringsBelowTable}
use Rattle.keep_edit_spec.specs.Laws.{IsEditable}
use Rattle.keep_edit_spec.specs.Lines.{body_end, body_length, ended_text, is_header, last_line, leads_through}
use Rattle.keep_edit_spec.specs.Lines.{Page, newline_of, plain_line, put_lines}
use Rattle.keep_edit_spec.specs.Look.{holder, key_text, keys_in}
use Rattle.keep_edit_spec.specs.Refusals.{end_reading, tables_in}
use Rattle.keep_edit_spec.specs.Runs.{PassesBy}
use Rattle.keep_edit_spec.specs.TextChanges.{TextChange, change_at}
use Rattle.keep_edit_spec.specs.TextEnds.{ends_in_newline}
use Rattle.keep_edit_spec.proofs.Append.AppendPlace.{IsCutAt, before_last}
use Rattle.keep_edit_spec.proofs.Append.AppendTable.{none_prefixes, silent_prefixes}
use Rattle.keep_edit_spec.proofs.Append.HeaderMarks.{element_again, marks_let, no_elements, through_unlisted}
use Rattle.keep_edit_spec.proofs.Common.BodyEnd.{IsLast, last_found}
use Rattle.keep_edit_spec.proofs.Common.Doubles.{IsMentioned, some_has}
use Rattle.keep_edit_spec.proofs.Common.LineLaws.{lines_mentions-append}
use Rattle.keep_edit_spec.proofs.Common.NewLines.{key_means}
use Rattle.keep_edit_spec.proofs.Common.Runs.{AllOf, Pairs, SomeOf, all_join, some_left, some_right}
use Rattle.keep_edit_spec.proofs.Insert.HeaderPrefixes.{IsLonger, path_keys, path_longer}
use Rattle.keep_edit_spec.proofs.Insert.NewPath.{keys_of_map}
use Rattle.keep_edit_spec.proofs.Insert.SectionPlace.{IsWayOf, way_of}
use Rattle.keep_edit_spec.proofs.Lists.BroughtAgain.{IsThroughThere, brought_there}
use Rattle.keep_edit_spec.proofs.Lists.BroughtAllowed.{brought_keys}
use Rattle.keep_edit_spec.proofs.Lists.HeaderComes.{HeaderComes, after_header, begins_none, element_comes, end_tables}
use Rattle.keep_edit_spec.proofs.Lists.HeaderComes.{table_comes}
use Rattle.keep_edit_spec.proofs.Lists.HeaderEnds.{end_headed, leads_headed, none_through}
use Rattle.keep_edit_spec.proofs.Lists.HeaderLines.{headed, header_lines, lines_are, newline_again, put_is}
use Rattle.keep_edit_spec.proofs.Lists.HeaderNew.{StatesNothing, way_states}
use Rattle.keep_edit_spec.proofs.Lists.HeaderOpens.{AreFirst, are_first}
use Rattle.keep_edit_spec.proofs.Lists.KeysAfterHeader.{holder_headed, refusal_headed}
use Rattle.keep_edit_spec.proofs.Lists.LinesAfterBody.{drop_behind, last_behind}
use Rattle.keep_edit_spec.proofs.Lists.NewHolder.{through_node}
use Rattle.keep_edit_spec.proofs.Lists.NewPaths.{InsertsKeys}
use Rattle.keep_edit_spec.proofs.Lists.RemovedOwn.{last_or}
use Rattle.keep_edit_spec.proofs.Rename.KeyTexts.{key_texts}
use Rattle.keep_edit_spec.proofs.Touched.FitLaws.{ended_append}

-- ---- a way by keys alone

-- A path of keys has no index.
no_index : (all : List (List ℕ)) (q rest : List Part) (n : ℕ) → map key all ≡ q ++ index n ∷ rest → ⊥
no_index [] [] rest n e = absurd cc
no_index [] (x ∷ q) rest n e = absurd cc
no_index (k ∷ all) [] rest n e = let one : key k ≡ index n = cc in absurd cc
no_index (k ∷ all) (x ∷ q) rest n e = let more : map key all ≡ q ++ index n ∷ rest = cc in no_index all q rest n more

-- so no array is where it goes on
entered_none : (tables : List (List Part)) (q : List Part) (l : List ℕ) (ls all : List (List ℕ))
    → header_path tables (entered_path tables q) (l ∷ ls) ≡ map key all → (0 == elements_of q tables) ≡ true
entered_none tables q l ls all e =
    by (0 == elements_of q tables) (path_longer tables (entered_path tables q) l ls)
  where
    end : List Part
    end = header_path tables (entered_path tables q) (l ∷ ls)

    by : (b : Bool) → IsLonger (cond b q (q ++ index (elements_of q tables - 1) ∷ [])) end → b ≡ true
    by true g = refl
    by false g =
        absurd (no_index all q (g.part ∷ g.more) (elements_of q tables - 1)
        (sym e ∙ g.is ∙ append_assoc q (index (elements_of q tables - 1) ∷ []) (g.part ∷ g.more)))

-- what a header says of a path where it goes on and no array is
passes_there : (tables : List (List Part)) (q : List Part) (more : List Mention) → (0 == elements_of q tables) ≡ true
    → SomeOf (IsMentioned is_through q) (passing_mentions tables q ++ more)
passes_there tables q more none =
    subst (λ (b : Bool). SomeOf (IsMentioned is_through q) (cond b (record { path = q; kind = through } ∷ [])
    (record { path = q; kind = past } ∷ record { path = entered_path tables q; kind = passed } ∷ []) ++ more))
    (sym none) (inl (refl, refl))

stays_there : (tables : List (List Part)) (q : List Part) → (0 == elements_of q tables) ≡ true
    → entered_path tables q ≡ q
stays_there tables q none = ap (λ (b : Bool). cond b q (q ++ index (elements_of q tables - 1) ∷ [])) none

-- A header whose path is of keys alone goes through each beginning of it.
way_said : (tables : List (List Part)) (at : List Part) (k : List ℕ) (more : List (List ℕ)) (l : List ℕ)
    (ls all : List (List ℕ)) → header_path tables at (k ∷ more ++ l ∷ ls) ≡ map key all
    → SomeOf (IsMentioned is_through (at ++ map key (k ∷ more))) (header_prefixes tables at (k ∷ more ++ l ∷ ls))
way_said tables at k [] l ls all e =
    let q : List Part = at ++ key k ∷ [] in
    passes_there tables q (header_prefixes tables (entered_path tables q) (l ∷ ls)) (entered_none tables q l ls all e)
way_said tables at k (m ∷ more) l ls all e =
    let q : List Part = at ++ key k ∷ [] in
    let stays : entered_path tables q ≡ q =
    stays_there tables q (entered_none tables q m (more ++ l ∷ ls) all e) in
    let whole : q ++ map key (m ∷ more) ≡ at ++ map key (k ∷ m ∷ more) =
    append_assoc at (key k ∷ []) (map key (m ∷ more)) in
    some_right (IsMentioned is_through (at ++ map key (k ∷ m ∷ more))) (passing_mentions tables q)
    (header_prefixes tables (entered_path tables q) (m ∷ more ++ l ∷ ls))
    (subst (λ (x : List Part). SomeOf (IsMentioned is_through x)
    (header_prefixes tables (entered_path tables q) (m ∷ more ++ l ∷ ls))) whole
    (subst (λ (x : List Part). SomeOf (IsMentioned is_through (q ++ map key (m ∷ more)))
    (header_prefixes tables x (m ∷ more ++ l ∷ ls))) (sym stays)
    (way_said tables q m more l ls all
    (ap (λ (x : List Part). header_path tables x (m ∷ more ++ l ∷ ls)) (sym stays) ∙ e))))

-- No beginning of the path is an array.
abbrev NoneBefore : List (List Part) → List Part → Type 0
NoneBefore tables a = (x : Part) (q rest : List Part) → a ≡ x ∷ q ++ rest → elements_of (x ∷ q) tables ≡ 0

none_next : (tables : List (List Part)) (a : List Part) → NoneBefore tables a
    → (at : List Part) (p : Part) (rest : List Part)
    → a ≡ (at ++ p ∷ []) ++ rest → (0 == elements_of (at ++ p ∷ []) tables) ≡ true
none_next tables a none [] p rest e = ap (λ (n : ℕ). 0 == n) (none p [] rest e)
none_next tables a none (x ∷ at) p rest e = ap (λ (n : ℕ). 0 == n) (none x (at ++ p ∷ []) rest e)

-- So a header whose keys are those of the path and more goes through it.
way_goes : (tables : List (List Part)) (a : List Part) → NoneBefore tables a
    → (at : List Part) (k : List ℕ) (more : List (List ℕ)) (l : List ℕ) (ls : List (List ℕ))
    → a ≡ at ++ map key (k ∷ more)
    → SomeOf (IsMentioned is_through a) (header_prefixes tables at (k ∷ more ++ l ∷ ls))
way_goes tables a none at k [] l ls e =
    let q : List Part = at ++ key k ∷ [] in
    subst (λ (x : List Part). SomeOf (IsMentioned is_through x) (header_prefixes tables at (k ∷ l ∷ ls))) (sym e)
    (passes_there tables q (header_prefixes tables (entered_path tables q) (l ∷ ls))
    (none_next tables a none at (key k) [] (e ∙ sym (append-nil q))))
way_goes tables a none at k (m ∷ more) l ls e =
    let q : List Part = at ++ key k ∷ [] in
    let whole : a ≡ q ++ map key (m ∷ more) = e ∙ sym (append_assoc at (key k ∷ []) (map key (m ∷ more))) in
    let stays : entered_path tables q ≡ q =
    stays_there tables q (none_next tables a none at (key k) (map key (m ∷ more)) whole) in
    some_right (IsMentioned is_through a) (passing_mentions tables q)
    (header_prefixes tables (entered_path tables q) (m ∷ more ++ l ∷ ls))
    (subst (λ (x : List Part). SomeOf (IsMentioned is_through a) (header_prefixes tables x (m ∷ more ++ l ∷ ls)))
    (sym stays) (way_goes tables a none q m more l ls whole))

-- By the rules a path that a header goes through is no array of tables.
no_array : (q : List Part) (ms : List Mention) → Pairs Allows (marks ms) → SomeOf (IsMentioned is_through q) ms
    → elements_of q (tables_in ms) ≡ 0
no_array q ms lets goes = no_elements q ms (by (has is_element q ms) refl)
  where
    by : (b : Bool) → has is_element q ms ≡ b → b ≡ false
    by false e = refl
    by true e =
        let no : true ≡ false =
        sym (through_unlisted q ms lets (some_has is_through q ms goes)) ∙ element_again q ms lets e in
        absurd cc

-- ---- a header that goes through the table

-- What the header says of the table: that it goes through it, and nothing else.
record IsBelow (a : List Part) (own : List Mention) : Type 0 where
  goes : SomeOf (IsMentioned is_through a) own
  nothing : AllOf (StatesNothing a) own

module _ (profile : Profile) (limit : ℕ) (s : Document) (k : List ℕ) (ks : List (List ℕ)) (other : List Part)
    (more : Value) (d : TextChange) (fine : IsEditable profile limit s) (h : BringsHeader profile limit s other more d)
    (through_table : GoThrough (k ∷ ks) (holder other (mentions_in s))) where
  abbrev keys : List (List ℕ)
  keys = k ∷ ks

  abbrev ms : List Mention
  ms = mentions_in s

  abbrev a : List Part
  a = holder other ms

  abbrev tables : List (List Part)
  tables = tables_in ms

  -- ---- the last header that went through the table

  found : IsLast (leads_through a) start (lines s) h.number
  found = last_found (leads_through a) start (lines s) h.number h.last

  abbrev at : Reading
  at = reading_after_lines start found.pre

  way : IsWayOf a at found.here
  way = way_of a at found.here found.passes

  abbrev heads : List (List ℕ)
  heads = way.first ∷ way.prefix

  there_before : (P : Mention → Type 0) → SomeOf P (line_mentions at found.here) → SomeOf P ms
  there_before P some =
      subst (λ (ls : List Line). SomeOf P (lines_mentions start ls)) (sym found.was)
      (subst (SomeOf P) (sym (lines_mentions-append start found.pre (found.here ∷ found.post)))
      (some_right P (lines_mentions start found.pre) _ (some_left P (line_mentions at found.here) _ some)))

  -- ---- the keys of the other

  abbrev next : List ℕ
  next = through_table.0

  abbrev after : List (List ℕ)
  after = through_table.1.0

  beginning : AreFirst keys a
  beginning = are_first keys a (map key (next ∷ after)) through_table.1.1

  heads_are : keys_in a ≡ heads
  heads_are = ap keys_in way.path ∙ path_keys at.tables [] way.first way.prefix

  path_is : a ≡ map key heads
  path_is =
      beginning.is
      ∙ ap (map key) (sym (keys_of_map beginning.first) ∙ ap keys_in (sym beginning.is) ∙ heads_are)

  keys_are : keys ≡ heads ++ next ∷ after
  keys_are =
      sym (keys_of_map keys) ∙ ap keys_in through_table.1.1
      ∙ filter_map-append key_text a (map key (next ∷ after))
      ∙ ap₂ (λ (x y : List (List ℕ)). x ++ y) heads_are (keys_of_map (next ∷ after))

  -- ---- its way

  lets : Pairs Allows (marks ms)
  lets = marks_let ms fine.obeys

  none : NoneBefore tables a
  none x q rest e = no_array (x ∷ q) ms lets (by f.first f.rest f.all f.is)
    where
      f : AreFirst heads (x ∷ q)
      f = are_first heads (x ∷ q) rest (sym path_is ∙ e)

      by : (start_keys end : List (List ℕ)) → heads ≡ start_keys ++ end → x ∷ q ≡ map key start_keys
          → SomeOf (IsMentioned is_through (x ∷ q)) ms
      by [] end all is = absurd cc
      by (y ∷ ys) [] all is =
          subst (λ (p : List Part). SomeOf (IsMentioned is_through p) ms)
          (path_is ∙ ap (map key) (all ∙ append-nil (y ∷ ys)) ∙ sym is)
          (there_before (IsMentioned is_through a) way.goes)
      by (y ∷ ys) (z ∷ zs) all is =
          there_before (IsMentioned is_through (x ∷ q))
          (subst (SomeOf (IsMentioned is_through (x ∷ q))) (sym way.said)
          (some_left (IsMentioned is_through (x ∷ q)) (header_prefixes at.tables [] heads) way.others
          (subst (λ (p : List Part). SomeOf (IsMentioned is_through p) (header_prefixes at.tables [] heads)) (sym is)
          (subst (λ (l : List (List ℕ)). SomeOf (IsMentioned is_through (map key (y ∷ ys)))
          (header_prefixes at.tables [] l)) (sym all)
          (way_said at.tables [] y ys z zs heads
          (ap (header_path at.tables []) (sym all) ∙ sym way.path ∙ path_is))))))

  goes : SomeOf (IsMentioned is_through a) (header_prefixes tables [] keys)
  goes =
      subst (λ (l : List (List ℕ)). SomeOf (IsMentioned is_through a) (header_prefixes tables [] l)) (sym keys_are)
      (way_goes tables a none [] way.first way.prefix next after path_is)

  -- ---- what it says

  -- It says something of a path with these keys only where they are the table's.
  no_path : (q : List Part) → keys_in q ≡ keys → q ≡ a → ⊥
  no_path q all same =
      let more_keys : heads ≡ heads ++ next ∷ after = sym heads_are ∙ ap keys_in (sym same) ∙ all ∙ keys_are in
      omega (arith, ap (λ (l : List (List ℕ)). length l) more_keys, length-append heads (next ∷ after))

  own_path : keys_in (header_path tables [] keys) ≡ keys
  own_path = path_keys tables [] k ks

  way_nothing : AllOf (StatesNothing a) (header_prefixes tables [] keys)
  way_nothing =
      way_states a (header_prefixes tables [] keys) (silent_prefixes tables [] keys) (none_prefixes tables [] keys)

  table_below : IsBelow a (statement_mentions (end_reading ms) (marks_of.header keys))
  table_below =
      let path : List Part = header_path tables [] keys in
      let end : List Mention = record { path = path; kind = define } ∷ [] in
      record {
        goes = some_left (IsMentioned is_through a) (header_prefixes tables [] keys) end goes;
        nothing =
            all_join (StatesNothing a) (header_prefixes tables [] keys) end way_nothing
            ((λ e. absurd (no_path path own_path e)), tt);
      }

  element_below : IsBelow a (statement_mentions (end_reading ms) (marks_of.element_header keys))
  element_below =
      let path : List Part = header_path tables [] keys in
      let new : List Part = path ++ index (elements_of path tables) ∷ [] in
      let new_path : keys_in new ≡ keys =
      filter_map-append key_text path (index (elements_of path tables) ∷ []) ∙ append-nil (keys_in path) ∙ own_path in
      let end : List Mention =
      record { path = path; kind = marks_of.element } ∷ record { path = new; kind = begun } ∷ [] in
      record {
        goes = some_left (IsMentioned is_through a) (header_prefixes tables [] keys) end goes;
        nothing =
            all_join (StatesNothing a) (header_prefixes tables [] keys) end way_nothing
            ((λ e. absurd (no_path path own_path e)), ((λ e. absurd (no_path new new_path e)), tt));
      }

-- ---- after the header

module _ (profile : Profile) (limit : ℕ) (s : Document) (keys : List (List ℕ)) (c : TextChange) (content : Content)
    (other : List Part) (more : Value) (d : TextChange) (fine : IsEditable profile limit s)
    (closed : ends_in_newline (text s) ≡ true) (h : HeaderComes s keys c content) (is : is_header content ≡ true)
    (k : BringsHeader profile limit s other more d) (clear : PassesBy keys (first_new s other))
    (below : IsBelow (holder other (mentions_in s)) h.own) where
  abbrev now : Document
  now = (headed s content).to

  abbrev table : List Part
  table = holder other (mentions_in s)

  -- ---- the lines

  abbrev first : List Line
  first = map line_of s.ended

  abbrev behind : List Line
  behind = plain_line blank ∷ plain_line content ∷ s.last ∷ []

  abbrev at_end : Reading
  at_end = reading_after_lines start first

  now_are : lines now ≡ first ++ behind
  now_are = ap lines (put_is s content) ∙ lines_are s content

  two_lines : length now.ended ≡ length s.ended + 2
  two_lines =
      ap (λ (t : Document). length t.ended) (put_is s content) ∙ length-append s.ended (header_lines s content)

  -- ---- the last header that goes through the table

  passes : leads_through table at_end (plain_line content) ≡ true
  passes =
      ap₂ (λ (x y : Bool). x && y) is
      (ap (has is_through table) (h.stated at_end (end_tables s keys c content h))
      ∙ some_has is_through table h.own below.goes)

  none_last : leads_through table (after_line at_end (plain_line content)) s.last ≡ false
  none_last = none_through table (after_line at_end (plain_line content)) s.last h.empty

  -- it is the second line that comes
  last_now : last_line (leads_through table) start (lines now) ≡ Some (length first + 1)
  last_now =
      ap (last_line (leads_through table) start) now_are
      ∙ last_behind (leads_through table) start first behind 1
      (ap₂ (λ (x y : Bool). last_or false (last_or x (last_or y None))) passes none_last)

  body_now : body_length (drop (suc (length first + 1)) (lines now)) ≡ 0
  body_now =
      let two : suc (length first + 1) ≡ length first + 2 = omega arith in
      ap body_length
      (ap₂ (λ (i : ℕ) (ls : List Line). drop i ls) two now_are ∙ drop_behind first behind 2)
      ∙ ap (λ (x : Content). body_length (plain_line x ∷ [])) h.empty

  ends_now : body_end (length first + 1) (lines now) ≡ length now.ended
  ends_now = omega (arith, body_now, two_lines, length-map s.ended line_of)

  there : IsThroughThere s other now (length first + 1)
  there = record {
    bare = end_headed s content h.empty is table (begins_none s keys c content h table below.nothing) ∙ k.bare;
    no_dots = leads_headed s content h.empty is table ∙ k.no_dots;
    last = last_now;
    closed = omega (arith, ends_now);
  }

  -- ---- where its body ends

  abbrev added : Changed Page
  added = put_lines (length s.ended) (header_lines s content) (newline_of s) s.ended s.last

  cut : IsCutAt (length (ended_text s.ended)) (ended_text (header_lines s content)) added
  cut = before_last (header_lines s content) (newline_of s) s.ended s.last

  begins_at : line_start now (body_end (length first + 1) (lines now)) ≡ c.at + length c.new
  begins_at =
      let bom : List ℕ = text_of (bom_leaves s.bom) in
      omega (
        arith,
        ap (line_start now) ends_now,
        ap (λ (es : List Ended). length (text_of (bom_leaves now.bom)) + length (ended_text es))
            (take_all (length now.ended) now.ended (omega arith)),
        ap (λ (t : Document). length (text_of (bom_leaves t.bom)) + length (ended_text t.ended)) (put_is s content),
        ap (λ (t : List ℕ). length t) (ended_append s.ended (header_lines s content)),
        length-append (ended_text s.ended) (ended_text (header_lines s content)),
        ap (λ (p : Place). p.start) h.is,
        length-append bom added.before,
        cut.start,
        ap (λ (p : Place). length p.new) h.is,
        ap (λ (t : List ℕ). length t) cut.new,
      )

  newline_now : newline_of now ≡ newline_of s
  newline_now =
      ap (λ (o : Option (Changed Document)). newline_of (changed_or_same s o).to) (sym h.made)
      ∙ newline_again profile s fine.valid closed content

  -- ---- the insert

  abbrev its : InsertsKeys profile limit s other more
  its = brought_keys profile limit s other more d k

  node_now : is_node table (mentions_in now) ≡ true
  node_now = through_node now table (length first + 1) last_now

  brings_now : StillBrings profile limit s now other more (change_at (c.at + length c.new) 0 d.new)
  brings_now =
      brought_there profile limit s now other more d (change_at (c.at + length c.new) 0 d.new) k (length first + 1)
      there begins_at refl refl newline_now
      (holder_headed s keys c content h profile limit other more its clear node_now below.nothing)
      (refusal_headed s keys c content h profile limit other more its clear node_now below.nothing)

-- ---- of a table, and of an element

pub brings_below_table : StillBringsBelowTable
brings_below_table profile limit s [] c other more d fine h k clear goes = let no = h.allowed in absurd cc
brings_below_table profile limit s (n ∷ ns) c other more d fine h k clear goes =
    let keys : List (List ℕ) = n ∷ ns in
    let one : Content = header [] (key_with keys) [] in
    let come : HeaderComes s keys c one = table_comes profile limit s keys c fine h in
    let ms : List Mention = mentions_in s in
    let own : statement_mentions (end_reading ms) (marks_of.header keys) ≡ come.own =
    ap (λ (x : List (List ℕ)). statement_mentions (end_reading ms) (marks_of.header x))
    (sym (key_means profile n ns (key_texts profile keys h.utf8)))
    ∙ come.stated (end_reading ms) refl in
    let at : TextChange = change_at (c.at + length c.new) 0 d.new in
    after_header (λ (t : Document). StillBrings profile limit s t other more at) s one keys c come
    (brings_now profile limit s keys c one other more d fine h.closed come refl k clear
    (subst (IsBelow (holder other ms)) own (table_below profile limit s n ns other more d fine k goes)))

pub brings_below_element : StillBringsBelowElement
brings_below_element profile limit s [] c other more d fine h k clear goes = let no = h.allowed in absurd cc
brings_below_element profile limit s (n ∷ ns) c other more d fine h k clear goes =
    let keys : List (List ℕ) = n ∷ ns in
    let one : Content = element [] (key_with keys) [] in
    let come : HeaderComes s keys c one = element_comes profile limit s keys c fine h in
    let ms : List Mention = mentions_in s in
    let own : statement_mentions (end_reading ms) (marks_of.element_header keys) ≡ come.own =
    ap (λ (x : List (List ℕ)). statement_mentions (end_reading ms) (marks_of.element_header x))
    (sym (key_means profile n ns (key_texts profile keys h.utf8)))
    ∙ come.stated (end_reading ms) refl in
    let at : TextChange = change_at (c.at + length c.new) 0 d.new in
    after_header (λ (t : Document). StillBrings profile limit s t other more at) s one keys c come
    (brings_now profile limit s keys c one other more d fine h.closed come refl k clear
    (subst (IsBelow (holder other ms)) own (element_below profile limit s n ns other more d fine k goes)))
