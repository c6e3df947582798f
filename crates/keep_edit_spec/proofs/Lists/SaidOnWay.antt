-- What a document says once an insert added a line whose key goes by keys on the way from its body to the holder.
--
-- The line says again of the tables on that way that they are dotted, which a line before it says, too, and all else
-- that it says is at the path of the first new key or under it (`own_is`). So a path that does not begin with that one
-- is a node as before, and has the fact and the elements that it had, and any test of what is said of it passes as
-- before (`any_stays`). If it is no beginning of that one either, the same is said of it (`kinds_apart`), as of each
-- path of which the line says nothing (`kinds_beside`). Another path that can be inserted does not begin with that of
-- the first new key, if its own has another (NewPaths); so its holder and its refusal stay (SaidOfPrefixes).
--
-- Theorems: `kinds_replaced`, `count-append`, `none_counted`; `kinds_beside`, `kinds_apart`; `only_dots`, `any_stays`,
-- `node_stays`, `fact_stays`, `elements_stay`; `holder_stays`, `refusal_stays`.
use Rattle.std.proofs.Common.{◌≡◌, ◌≢◌, ℕ, ◌+◌, Bool, true, false, not, cond, ◌&&◌, ◌||◌, List, [], ◌∷◌, ◌++◌, map}
use Rattle.std.proofs.Common.{take, drop, refl, sym, ap, ap₂, subst, ◌∙◌, append_assoc, arith, Option, None}
use Rattle.std.specs.List.{count_by, filter_map, list_any}
use Rattle.std.proofs.lemmas.List.{append-nil, map-append}
use Rattle.std.proofs.lemmas.List.Sums.{sum_by-append, sum_by-cons}
use Rattle.keep_types.specs.declared.leaf.Profile.{Profile}
use Rattle.keep_syntax.specs.Tree.{Value, Document}
use Rattle.keep_path.specs.Path.{Part, key, strip}
use Rattle.keep_meaning.specs.Fact.{Fact}
use Rattle.keep_meaning.specs.Marks.{Mention, MentionKind, Reading, below, fact_of, start, value as kinds_value}
use Rattle.keep_meaning.specs.Meaning.{body_fact, entries_mentions, keyed_mentions, keyval_mentions, lines}
use Rattle.keep_meaning.specs.Meaning.{lines_mentions, mentions_in, valued_mentions}
use Rattle.keep_meaning.specs.Nodes.{fact_at, first_of, has, is_at, is_element, is_node, is_root, kinds_at}
use Rattle.keep_edit_spec.specs.AddedLines.{first_new}
use Rattle.keep_edit_spec.specs.Edits.{edited_document, insert, name_with}
use Rattle.keep_edit_spec.specs.Look.{holder, is_table, is_table_fact}
use Rattle.keep_edit_spec.specs.Refusals.{refusal}
use Rattle.keep_edit_spec.specs.Runs.{AreApart}
use Rattle.keep_edit_spec.proofs.Common.Doubles.{has_doubled}
use Rattle.keep_edit_spec.proofs.Common.InsertLaw.{keyed_under, under_both, without_ways}
use Rattle.keep_edit_spec.proofs.Common.LineLaws.{lines_mentions-append}
use Rattle.keep_edit_spec.proofs.Common.Runs.{AllOf, IsUnder, kinds_at-append, kinds_at-under}
use Rattle.keep_edit_spec.proofs.Common.SetLaw.{map_twice}
use Rattle.keep_edit_spec.proofs.Common.Stops.{dotted_below, keyed_stops, stops}
use Rattle.keep_edit_spec.proofs.Insert.InsertDotted.{mentioned_before}
use Rattle.keep_edit_spec.proofs.Lists.LineOnWay as line
use Rattle.keep_edit_spec.proofs.Lists.LineOnWay.{AddsOnWay, lines_now, path_apart, path_is}
use Rattle.keep_edit_spec.proofs.Lists.NewPaths.{InsertsKeys, before_clear, first_path, other_clear}
use Rattle.keep_edit_spec.proofs.Lists.OwnKinds.{keyval_silent}
use Rattle.keep_edit_spec.proofs.Lists.SaidOfPrefixes.{enclosing_same, holder_alike, node_kinds, refused_alike}

-- ---- other mentions in their place

-- other mentions that say the same of a path
pub kinds_replaced : (q : List Part) (before old new after : List Mention) → kinds_at q old ≡ kinds_at q new
    → kinds_at q (before ++ (old ++ after)) ≡ kinds_at q (before ++ (new ++ after))
kinds_replaced q before old new after same =
    kinds_at-append q before (old ++ after)
    ∙ ap (λ (ks : List MentionKind). kinds_at q before ++ ks)
    (kinds_at-append q old after ∙ ap (λ (ks : List MentionKind). ks ++ kinds_at q after) same
    ∙ sym (kinds_at-append q new after))
    ∙ sym (kinds_at-append q before (new ++ after))

abbrev pub count_at : (MentionKind → Bool) → List Part → List Mention → ℕ
count_at test q ms = count_by test (kinds_at q ms)

pub count-append : (test : MentionKind → Bool) (q : List Part) (xs ys : List Mention)
    → count_at test q (xs ++ ys) ≡ count_at test q xs + count_at test q ys
count-append test q xs ys =
    ap (count_by test) (kinds_at-append q xs ys)
    ∙ sum_by-append (λ (k : MentionKind). cond (test k) 1 0) (kinds_at q xs) (kinds_at q ys)

pub none_counted : (test : MentionKind → Bool) (q : List Part) (ms : List Mention)
    → AllOf (λ m. test m.kind ≡ false) ms → count_at test q ms ≡ 0
none_counted test q [] h = refl
none_counted test q (m ∷ ms) h = by (is_at q m) refl (none_counted test q ms h.1)
  where
    by : (b : Bool) → is_at q m ≡ b → count_at test q ms ≡ 0 → count_at test q (m ∷ ms) ≡ 0
    by true e rest =
        rw e (sum_by-cons (λ (k : MentionKind). cond (test k) 1 0) m.kind (kinds_at q ms)
        ∙ ap₂ (λ (b : Bool) (n : ℕ). cond b 1 0 + n) h.0 rest)
    by false e rest = rw e rest

-- ---- what the line says

module _ (profile : Profile) (limit : ℕ) (s : Document) (path : List Part) (value : Value)
    (h : AddsOnWay profile limit s path value) where
  abbrev ms : List Mention
  ms = mentions_in s

  abbrev now : List Mention
  now = mentions_in (edited_document s (insert path value))

  abbrev first : List Part
  first = first_new s path

  abbrev keys : List (List ℕ)
  keys = line.keys profile limit s path value h

  abbrev r : Reading
  r = line.r profile limit s path value h

  abbrev early : List Mention
  early = lines_mentions start (take h.n (lines s))

  abbrev late : List Mention
  late = lines_mentions r (drop h.n (lines s))

  abbrev own : List Mention
  own = map (below r.body) (keyval_mentions (name_with keys) value)

  abbrev inner : List Mention
  inner = valued_mentions (kinds_value (body_fact value.body)) (entries_mentions 0 value.nested)

  abbrev new : List Mention
  new = keyed_mentions (h.inserts.text ∷ h.inserts.more) inner

  abbrev dots : List Mention
  dots = map (below r.body) (stops h.way)

  abbrev run : List Mention
  run = map (below (r.body ++ map key h.way)) new

  own_is : own ≡ dots ++ run
  own_is =
      ap (λ (ks : List (List ℕ)). map (below r.body) (keyed_mentions ks inner)) h.means
      ∙ ap (map (below r.body)) (keyed_stops h.way h.inserts.text h.inserts.more inner)
      ∙ map-append (below r.body) (stops h.way) (map (below (map key h.way)) new)
      ∙ ap (λ (l : List Mention). dots ++ l) (map_twice r.body (map key h.way) new)

  run_under : AllOf (IsUnder first) run
  run_under =
      subst (λ (p : List Part). AllOf (IsUnder p) run)
      (ap (λ (q : List Part). q ++ key h.inserts.text ∷ []) (sym h.holds)
      ∙ sym (first_path profile limit s path value h.inserts))
      (under_both (r.body ++ map key h.way) (key h.inserts.text ∷ []) new
      (keyed_under h.inserts.text h.inserts.more inner))

  was : ms ≡ early ++ late
  was = mentioned_before s h.n

  said : now ≡ early ++ (own ++ late)
  said =
      ap (lines_mentions start) (lines_now profile limit s path value h)
      ∙ lines_mentions-append start (take h.n (lines s))
      ((line.x profile limit s path value h).line ∷ drop h.n (lines s))

  -- of a path of which it says nothing
  pub kinds_beside : (q : List Part) → kinds_at q own ≡ [] → kinds_at q now ≡ kinds_at q ms
  kinds_beside q silent =
      ap (kinds_at q) said ∙ kinds_replaced q early own [] late silent ∙ ap (kinds_at q) (sym was)

  -- of one that does not begin with that of the first new key, nor is a beginning of it
  pub kinds_apart : (q : List Part) → AreApart first q → kinds_at q now ≡ kinds_at q ms
  kinds_apart q apart =
      kinds_beside q
      (keyval_silent r.body (name_with keys) value q
      (subst (λ (p : List Part). AreApart p q) (sym (path_is profile limit s path value h))
      (path_apart profile limit s path value h q apart)))

  -- ---- of a path that does not begin with that of the first new key

  module _ (q : List Part) (clear : strip first q ≡ None) where
    pub only_dots : kinds_at q own ≡ kinds_at q dots
    only_dots =
        ap (kinds_at q) own_is ∙ kinds_at-append q dots run
        ∙ ap (λ (ks : List MentionKind). kinds_at q dots ++ ks) (kinds_at-under first q run run_under clear)
        ∙ append-nil (kinds_at q dots)

    kinds_now : kinds_at q now ≡ kinds_at q (early ++ (dots ++ late))
    kinds_now = ap (kinds_at q) said ∙ kinds_replaced q early own dots late only_dots

    pub any_stays : (test : MentionKind → Bool) → has test q now ≡ has test q ms
    any_stays test =
        ap (list_any test) kinds_now ∙ has_doubled test q early dots late h.doubles ∙ ap (has test q) (sym was)

    pub node_stays : is_node q now ≡ is_node q ms
    node_stays =
        node_kinds q now
        ∙ ap (λ (b : Bool). is_root q || b) (any_stays (λ (k : MentionKind). true))
        ∙ sym (node_kinds q ms)

    pub fact_stays : fact_at q now ≡ fact_at q ms
    fact_stays =
        ap (λ (ks : List MentionKind). first_of (filter_map fact_of ks)) kinds_now
        ∙ ap (fact_at q) (sym (append_assoc early dots late))
        ∙ without_ways q early dots late
        (dotted_below (λ (k : MentionKind). fact_of k ≡ None) refl r.body h.way)
        ∙ ap (fact_at q) (sym was)

    pub elements_stay : count_at is_element q now ≡ count_at is_element q ms
    elements_stay =
        let none : count_at is_element q dots ≡ 0 =
        none_counted is_element q dots (dotted_below (λ (k : MentionKind). is_element k ≡ false) refl r.body h.way) in
        omega (
          arith,
          ap (count_by is_element) kinds_now,
          count-append is_element q early (dots ++ late),
          count-append is_element q dots late,
          none,
          ap (count_at is_element q) was,
          count-append is_element q early late,
        )

-- ---- another path that can be inserted

module _ (profile : Profile) (limit : ℕ) (s : Document) (path : List Part) (value : Value)
    (h : AddsOnWay profile limit s path value) (other : List Part) (more : Value)
    (k : InsertsKeys profile limit s other more) (differs : first_new s path ≢ first_new s other) where
  abbrev were : List Mention
  were = mentions_in s

  abbrev are : List Mention
  are = mentions_in (edited_document s (insert path value))

  clear : (q rest : List Part) → other ≡ q ++ rest → strip (first_new s path) q ≡ None
  clear = before_clear profile limit s path value h.inserts other more k differs

  pub holder_stays : holder other are ≡ holder other were
  holder_stays =
      holder_alike were are other (λ q rest is. node_stays profile limit s path value h q (clear q rest is))

  table_stays : is_table (holder other are) are ≡ is_table (holder other were) were
  table_stays =
      let b : List Part = holder other were in
      let apart : strip (first_new s path) b ≡ None = clear b (map key (k.text ∷ k.more)) k.new in
      ap (λ (p : List Part). is_table p are) holder_stays
      ∙ ap₂ (λ (f : Option Fact) (e : Bool). is_table_fact f && not e)
      (fact_stays profile limit s path value h b apart) (any_stays profile limit s path value h b apart is_element)

  pub refusal_stays : refusal profile limit (edited_document s (insert path value)) (insert other more) ≡ None
  refusal_stays =
      refused_alike were are other k.text k.more k.new profile limit more holder_stays
      (node_stays profile limit s path value h other
      (other_clear profile limit s path value h.inserts other more k differs))
      table_stays
      (enclosing_same were are other (λ q rest is. fact_stays profile limit s path value h q (clear q rest is)))
      ∙ k.allowed
