-- What a document says after an insert brought the header of its table.
--
-- The header says what the last header that goes through the table said on its way there, and that the table is
-- defined; all else that is new is at the path of the first new key or under it (`now_is`). So a path that does not
-- begin with that one is a node as before, and has the elements that it had (`node_stays`, `elements_stay`,
-- `count_stays`); and any test of what is said of it passes as before, if it is not the table's (`any_stays`). By the
-- law of `insert` it has the fact that it had, if it is not the table's (`fact_stays`), and a table is one still
-- (`table_stays`); and the table whose header came is neither an array nor an inline table, as before (BracketsStay).
--
-- Theorems: `lawful`; `under`: what the keyval says is under the path of the first new key; `any_stays`,
-- `elements_stay`, `count_stays`, `node_stays`, `fact_stays`, `table_stays`, `bracket_same`.
use Rattle.std.proofs.Common.{◌≡◌, ◌≢◌, ℕ, Bool, true, false, not, ◌&&◌, ◌||◌, cond, List, [], ◌∷◌, ◌++◌, map}
use Rattle.std.proofs.Common.{take, drop, refl, sym, ap, ap₂, subst, ◌∙◌, append_assoc, arith, Some, None, inl, inr}
use Rattle.std.specs.List.{count_by, list_any}
use Rattle.std.proofs.lemmas.Bool.{and_parts}
use Rattle.keep_types.specs.declared.leaf.Profile.{Profile}
use Rattle.keep_syntax.specs.Tree.{Value, Document}
use Rattle.keep_path.specs.Path.{Part, key, same_path, strip}
use Rattle.keep_meaning.specs.Marks.{Mention, MentionKind, Reading, below, define, header_path, header_prefixes}
use Rattle.keep_meaning.specs.Marks.{start, value as kinds_value}
use Rattle.keep_meaning.specs.Meaning.{body_fact, entries_mentions, keyed_mentions, keys_of, line_of, lines}
use Rattle.keep_meaning.specs.Meaning.{lines_mentions, mentions_in, mentions_of_value, valued_mentions}
use Rattle.keep_meaning.specs.Nodes.{fact_at, has, is_at, is_element, is_node, is_root, is_through, kinds_at}
use Rattle.keep_edit_spec.specs.AddedLines.{first_new}
use Rattle.keep_edit_spec.specs.BroughtHeaders.{BringsHeader}
use Rattle.keep_edit_spec.specs.Edits.{edited_document, insert, name_with}
use Rattle.keep_edit_spec.specs.Laws.{IsEditable, IsLawfulEdit}
use Rattle.keep_edit_spec.specs.Look.{holder, is_bracket_at, is_table, is_table_fact}
use Rattle.keep_edit_spec.specs.Runs.{AreApart}
use Rattle.keep_edit_spec.specs.TextChanges.{TextChange}
use Rattle.keep_edit_spec.specs.Trees.{a_table, fact_from, from, is_through_alone, source}
use Rattle.keep_edit_spec.proofs.EditLaws.{insert_lawful}
use Rattle.keep_edit_spec.proofs.Append.AppendTable.{none_prefixes}
use Rattle.keep_edit_spec.proofs.Common.Doubles.{has-append, has_doubled, some_has}
use Rattle.keep_edit_spec.proofs.Common.EntryDepths.{bracket_of}
use Rattle.keep_edit_spec.proofs.Common.InsertLaw.{keyed_under, under_both}
use Rattle.keep_edit_spec.proofs.Common.LineLaws.{lines_mentions-append}
use Rattle.keep_edit_spec.proofs.Common.Runs.{AllOf, IsUnder, all_join, kinds_at-under, none_or_some, same_path-sound}
use Rattle.keep_edit_spec.proofs.Common.Runs.{strip_shorter}
use Rattle.keep_edit_spec.proofs.Insert.InsertDotted.{mentioned_before}
use Rattle.keep_edit_spec.proofs.Insert.KeysAtEnd.{first_is, path_goes_on}
use Rattle.keep_edit_spec.proofs.Lists.BracketsStay.{brackets_stay}
use Rattle.keep_edit_spec.proofs.Lists.BroughtLines as brought
use Rattle.keep_edit_spec.proofs.Lists.BroughtLines.{lines_now, means, no_item}
use Rattle.keep_edit_spec.proofs.Lists.BroughtWay as way
use Rattle.keep_edit_spec.proofs.Lists.BroughtWay.{own_keys, own_path, reading_there, section, table_goes, way_doubles}
use Rattle.keep_edit_spec.proofs.Lists.HeaderWay.{IsOnWay, on_way, silent_beside}
use Rattle.keep_edit_spec.proofs.Lists.SaidOfPrefixes.{node_kinds}
use Rattle.keep_edit_spec.proofs.Lists.SaidOnWay.{count-append, count_at, kinds_replaced, none_counted}
use Rattle.keep_edit_spec.proofs.Rename.RenamedPath.{strip_more}

-- ---- of mentions

-- one mention more, which passes a test only where one before it does
one_more : (test : MentionKind → Bool) (q : List Part) (before : List Mention) (m : Mention) (after : List Mention)
    → (is_at q m ≡ true → test m.kind ≡ true → has test q before ≡ true)
    → has test q (before ++ m ∷ after) ≡ has test q (before ++ after)
one_more test q before m after only =
    has-append test q before (m ∷ after) ∙ by (is_at q m) refl (test m.kind) refl (has test q before) refl
    ∙ sym (has-append test q before after)
  where
    by : (b : Bool) → is_at q m ≡ b → (c : Bool) → test m.kind ≡ c → (d : Bool) → has test q before ≡ d
        → (has test q before || has test q (m ∷ after)) ≡ (has test q before || has test q after)
    by false e c f d g = rw e refl
    by true e false f d g = rw (e, f) refl
    by true e true f true g = rw g refl
    by true e true f false g = absurd (let said : has test q before ≡ true = only e f in cc)

-- kinds that pass a test are there
any_kind : (test : MentionKind → Bool) (kinds : List MentionKind) → list_any test kinds ≡ true
    → list_any (λ (k : MentionKind). true) kinds ≡ true
any_kind test [] h = absurd cc
any_kind test (k ∷ kinds) h = refl

module _ (profile : Profile) (limit : ℕ) (s : Document) (path : List Part) (value : Value) (c : TextChange)
    (fine : IsEditable profile limit s) (h : BringsHeader profile limit s path value c) where
  abbrev ms : List Mention
  ms = mentions_in s

  abbrev a : List Part
  a = holder path ms

  abbrev now : Document
  now = edited_document s (insert path value)

  abbrev n : ℕ
  n = brought.n profile limit s path value c h

  abbrev keys : List (List ℕ)
  keys = h.text ∷ h.more

  abbrev first : List Part
  first = first_new s path

  abbrev r : Reading
  r = brought.r profile limit s path value c h

  abbrev heads : List (List ℕ)
  heads = way.heads profile limit s path value c fine h

  -- ---- what is said

  abbrev early : List Mention
  early = lines_mentions start (take n (lines s))

  abbrev late : List Mention
  late = lines_mentions r (drop n (lines s))

  abbrev doubles : List Mention
  doubles = way.doubles profile limit s path value c fine h

  abbrev own : Mention
  own = record { path = a; kind = define }

  abbrev inner : List Mention
  inner = valued_mentions (kinds_value (body_fact value.body)) (entries_mentions 0 value.nested)

  -- what a keyval with these keys says
  abbrev pub run : List Mention → List Mention
  run nested = map (below a) (keyed_mentions (keys_of (name_with keys).key) nested)

  abbrev put : List Mention
  put = doubles ++ own ∷ []

  was : ms ≡ early ++ late
  was =
      mentioned_before s n
      ∙ ap (λ (x : Reading). early ++ lines_mentions x (drop n (lines s)))
      (reading_there profile limit s path value c fine h)

  said : lines_mentions r (map line_of (brought.new_lines profile limit s path value c h) ++ drop n (lines s))
      ≡ put ++ (run inner ++ late)
  said =
      let then : List (List ℕ) → List Part → List Mention =
      λ ks p. (header_prefixes r.tables [] ks ++ record { path = p; kind = define } ∷ [])
      ++ (map (below p) (keyed_mentions (keys_of (name_with keys).key) inner)
      ++ lines_mentions (record { tables = r.tables; body = p }) (drop n (lines s))) in
      ap (λ (ks : List (List ℕ)). then ks (header_path r.tables [] ks)) (own_keys profile limit s path value c fine h)
      ∙ ap (then heads) (own_path profile limit s path value c fine h)
      ∙ ap (λ (l : List Mention). put ++ (run inner ++ l))
      (ap (λ (x : Reading). lines_mentions (record { tables = x.tables; body = a }) (drop n (lines s)))
      (sym (reading_there profile limit s path value c fine h))
      ∙ (section profile limit s path value c fine h).place.free
      ∙ ap (λ (x : Reading). lines_mentions x (drop n (lines s))) (reading_there profile limit s path value c fine h))

  now_is : mentions_in now ≡ (early ++ put) ++ (run inner ++ late)
  now_is =
      ap (lines_mentions start) (lines_now profile limit s path value c h)
      ∙ lines_mentions-append start (take n (lines s))
      (map line_of (brought.new_lines profile limit s path value c h) ++ drop n (lines s))
      ∙ ap (λ (x : Reading). early
      ++ lines_mentions x (map line_of (brought.new_lines profile limit s path value c h) ++ drop n (lines s)))
      (reading_there profile limit s path value c fine h)
      ∙ ap (λ (l : List Mention). early ++ l) said ∙ sym (append_assoc early put (run inner ++ late))

  pub under : (nested : List Mention) → AllOf (IsUnder first) (run nested)
  under nested =
      subst (λ (p : List Part). AllOf (IsUnder p) (run nested)) (sym (first_is s path h.text h.more h.new))
      (subst (λ (ks : List (List ℕ)).
      AllOf (IsUnder (a ++ key h.text ∷ [])) (map (below a) (keyed_mentions ks nested)))
      (sym (means profile limit s path value c h))
      (under_both a (key h.text ∷ []) (keyed_mentions keys nested) (keyed_under h.text h.more nested)))

  -- something was said of the table before
  table_said : has (λ (k : MentionKind). true) a early ≡ true
  table_said =
      any_kind is_through (kinds_at a early)
      (some_has is_through a early (table_goes profile limit s path value c fine h))

  pub lawful : IsLawfulEdit profile limit s (insert path value)
  lawful = insert_lawful profile limit s path value fine h.given h.utf8 h.allowed

  -- ---- of a path that does not begin with that of the first new key

  module _ (q : List Part) (clear : strip first q ≡ None) where
    kinds_now : kinds_at q (mentions_in now) ≡ kinds_at q ((early ++ put) ++ late)
    kinds_now =
        ap (kinds_at q) now_is
        ∙ kinds_replaced q (early ++ put) (run inner) [] late (kinds_at-under first q (run inner) (under inner) clear)

    pub any_stays : (test : MentionKind → Bool)
        → (same_path a q ≡ true → test define ≡ true → has test q early ≡ true)
        → has test q (mentions_in now) ≡ has test q ms
    any_stays test only =
        ap (list_any test) kinds_now
        ∙ ap (has test q) (append_assoc early put late
        ∙ ap (λ (l : List Mention). early ++ l) (append_assoc doubles (own ∷ []) late))
        ∙ has_doubled test q early doubles (own ∷ late) (way_doubles profile limit s path value c fine h)
        ∙ one_more test q early own late only
        ∙ ap (has test q) (sym was)

    pub elements_stay : has is_element q (mentions_in now) ≡ has is_element q ms
    elements_stay = any_stays is_element (λ e f. absurd cc)

    -- as many elements are said
    pub count_stays : count_by is_element (kinds_at q (mentions_in now)) ≡ count_by is_element (kinds_at q ms)
    count_stays =
        let none : count_at is_element q put ≡ 0 =
        none_counted is_element q put
        (all_join (λ m. is_element m.kind ≡ false) doubles (own ∷ []) (none_prefixes r.tables [] heads) (refl, tt)) in
        omega (
          arith,
          ap (count_by is_element) kinds_now,
          count-append is_element q (early ++ put) late,
          count-append is_element q early put,
          none,
          ap (count_at is_element q) was,
          count-append is_element q early late,
        )

    pub node_stays : is_node q (mentions_in now) ≡ is_node q ms
    node_stays =
        node_kinds q (mentions_in now)
        ∙ ap (λ (b : Bool). is_root q || b)
        (any_stays (λ (k : MentionKind). true)
        (λ e f. subst (λ (p : List Part). has (λ (k : MentionKind). true) p early ≡ true) (same_path-sound a q e)
        table_said))
        ∙ sym (node_kinds q ms)

    path_clear : strip path q ≡ None
    path_clear = elim (none_or_some (strip path q)) [
      | inl e ↦ e
      | inr r ↦
          let longer : strip (first ++ map key h.more) q ≡ Some r.0 =
          ap (λ (p : List Part). strip p q) (sym (path_goes_on s path h.text h.more h.new)) ∙ r.1 in
          let no : None ≡ Some (map key h.more ++ r.0) =
          sym clear ∙ strip_shorter first (map key h.more) q r.0 longer in
          absurd cc
    ]

    fact_now : fact_at q (mentions_in now)
        ≡ fact_from ms (mentions_of_value value) (cond (same_path q a && is_through_alone q ms) a_table (from q))
    fact_now =
        lawful.tree q
        ∙ ap (fact_from ms (mentions_of_value value))
        (rw (no_item profile limit s path value c h, path_clear, source) refl)

    pub fact_stays : a ≢ q → fact_at q (mentions_in now) ≡ fact_at q ms
    fact_stays differs = fact_now ∙ by (same_path q a) refl
      where
        by : (b : Bool) → same_path q a ≡ b
            → fact_from ms (mentions_of_value value) (cond (b && is_through_alone q ms) a_table (from q))
            ≡ fact_at q ms
        by true e = absurd (differs (sym (same_path-sound q a e)))
        by false e = refl

    pub table_stays : is_table q ms ≡ true → is_table q (mentions_in now) ≡ true
    table_stays was =
        let (known, single) = and_parts (is_table_fact (fact_at q ms)) (not (has is_element q ms)) was in
        ap₂ (λ (x y : Bool). x && y) (ap is_table_fact fact_now ∙ by (same_path q a && is_through_alone q ms) known)
        (ap not elements_stay ∙ single)
      where
        by : (b : Bool) → is_table_fact (fact_at q ms) ≡ true
            → is_table_fact (fact_from ms (mentions_of_value value) (cond b a_table (from q))) ≡ true
        by true known = refl
        by false known = known

    pub bracket_same : is_bracket_at (mentions_in now) q ≡ is_bracket_at ms q
    bracket_same =
        ap bracket_of (lawful.tree q)
        ∙ brackets_stay ms path value q (no_item profile limit s path value c h) path_clear

  -- ---- of a path that is no beginning of that one either

  module _ (q : List Part) (apart : AreApart first q) where
    pub table_clear : strip q a ≡ None
    table_clear = elim (none_or_some (strip q a)) [
      | inl e ↦ e
      | inr r ↦
          let on : strip q first ≡ Some (r.0 ++ key h.text ∷ []) =
          ap (strip q) (first_is s path h.text h.more h.new) ∙ strip_more q a (key h.text ∷ []) r.0 r.1 in
          let no : None ≡ Some (r.0 ++ key h.text ∷ []) = sym apart.1 ∙ on in
          absurd cc
    ]

    pub kinds_apart : kinds_at q (mentions_in now) ≡ kinds_at q ms
    kinds_apart =
        let on : AllOf (IsOnWay a) put =
        subst (λ (p : List Part). AllOf (IsOnWay p) (doubles ++ record { path = p; kind = define } ∷ []))
        (own_path profile limit s path value c fine h) (on_way r.tables heads define) in
        kinds_now q apart.0 ∙ ap (kinds_at q) (append_assoc early put late)
        ∙ kinds_replaced q early put [] late (silent_beside a q put table_clear on) ∙ ap (kinds_at q) (sym was)
