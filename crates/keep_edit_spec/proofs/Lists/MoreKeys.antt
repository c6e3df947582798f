-- An insert of several keys after another of the same first new key, which added its line at the end of a body, or to a
-- table that dotted keys make: it adds its line right behind that one, to the table that the dotted keys of that line
-- made.
--
-- The document says nothing at the path of the first new key or under it, so no line led through it (`none_led`), and
-- the new line does (`leads`): it is the last one that does (`last_now`). At that path the line says that there is a
-- table of dotted keys, and nothing else is said there (`said_first`); under it all is said of the key by which the
-- line goes on (`none_under`). So the other insert's holder is that table (`holds`), and it is not refused (`allowed`):
-- as many brackets enclose its path as before (`enclosed`). Its line has the same keys, relative to the same body, and
-- comes where the next line begins (PutsKeyval).
--
-- Both come to one place by the same keys on the way, as lines of one kind and holder (`ThereToo`, `line_there`,
-- `dotted_there`).
--
-- Theorems: `adds_more_key`; `one_holder`.
use Rattle.std.proofs.Common.{◌≡◌, ◌≢◌, ◌∙◌, ◌+◌, ℕ, suc, ◌≤◌, Bool, true, false, not, ◌&&◌, nat_lt, List, [], ◌∷◌}
use Rattle.std.proofs.Common.{◌++◌, length, map, take, drop, refl, sym, ap, ap₂, subst, arith, append_assoc, Option}
use Rattle.std.proofs.Common.{Some}
use Rattle.std.proofs.Common.{None, inl, inr}
use Rattle.std.specs.Prelude.{IsUtf8}
use Rattle.std.specs.List.{AllByRecursion, filter_map, list_any}
use Rattle.std.proofs.lemmas.List.{append-nil, map-append, take-append-drop}
use Rattle.keep_types.specs.declared.leaf.Profile.{Profile}
use Rattle.keep_types.specs.declared.leaf.Profile.TheVariants.{Wide}
use Rattle.keep_syntax.specs.Tree.{Value, Ended, Line, Name, Document, bom_leaves, ended_leaves, keyval, text_of}
use Rattle.keep_syntax.specs.Tree.{value_depth}
use Rattle.keep_path.specs.Path.{Part, key, same_part, strip, without_last}
use Rattle.keep_meaning.specs.Fact.{Fact}
use Rattle.keep_meaning.specs.Marks.{Mention, MentionKind, Reading, below, dotted, fact_of, start, value as kind_value}
use Rattle.keep_meaning.specs.Meaning.{body_fact, entries_mentions, keyed_mentions, keys_of, keyval_mentions, lines}
use Rattle.keep_meaning.specs.Meaning.{lines_mentions, mentions_in, reading_after_lines, valued_mentions}
use Rattle.keep_meaning.specs.Nodes.{fact_at, first_of, has, is_at, is_dotted, is_element, is_node, kinds_at}
use Rattle.keep_edit_spec.specs.AddedLines.{AddsLine, first_new}
use Rattle.keep_edit_spec.specs.DottedLines.{AddsDotted}
use Rattle.keep_edit_spec.specs.Edits.{at_line, change, edited_document, end_of, insert, name_with, place}
use Rattle.keep_edit_spec.specs.Insertion.{put_in}
use Rattle.keep_edit_spec.specs.InsertKinds.{AddsAs}
use Rattle.keep_edit_spec.specs.Laws.{IsEditable, IsGivenValue}
use Rattle.keep_edit_spec.specs.Lines.{begins, last_line, leads_dotted, new_line, newline_of, reading_at}
use Rattle.keep_edit_spec.specs.Look.{enclosing, holder, is_index, is_table, is_table_fact, keys_in}
use Rattle.keep_edit_spec.specs.MoreKeys.{AddsMoreKey, GoOnApart, key_below}
use Rattle.keep_edit_spec.specs.Refusals.{first_that_holds, is_foreign, is_too_deep, refusal, refusal_by}
use Rattle.keep_edit_spec.specs.Runs.{AreApart}
use Rattle.keep_edit_spec.specs.TextChanges.{TextChange, moved, moved_by}
use Rattle.keep_edit_spec.specs.declared.line_kind.LineKind.{LineKind}
use Rattle.keep_edit_spec.specs.declared.line_kind.LineKind.TheVariants.{LastInBody, OfDotted, WithHeader}
use Rattle.keep_edit_spec.specs.declared.fault.EditFault.{EditFault}
use Rattle.keep_edit_spec.specs.declared.fault.EditFault.TheVariants as fault
use Rattle.keep_edit_spec.proofs.Common.Cuts.{without_last-snoc}
use Rattle.keep_edit_spec.proofs.Common.LineLaws.{lines_mentions-append}
use Rattle.keep_edit_spec.proofs.Common.Runs.{AllOf, IsDisjoint, kinds_at-append, kinds_at-below, kinds_at-disjoint}
use Rattle.keep_edit_spec.proofs.Common.Runs.{kinds_at-under, none_or_some, same_part-sound, strip-append, strip-sound}
use Rattle.keep_edit_spec.proofs.Common.Runs.{strip_both}
use Rattle.keep_edit_spec.proofs.Common.SetDocument.{under_below}
use Rattle.keep_edit_spec.proofs.Insert.InsertDotted.{change_there, mentioned_before}
use Rattle.keep_edit_spec.proofs.Insert.KeysAtEnd as at_end
use Rattle.keep_edit_spec.proofs.Insert.NewPath.{drop_prefix_parts, keys_of_map, none_holds}
use Rattle.keep_edit_spec.proofs.Lists.BodyEnds.{later_from}
use Rattle.keep_edit_spec.proofs.Lists.DottedAfter.{bare_by}
use Rattle.keep_edit_spec.proofs.Lists.LineOnWay as on_way
use Rattle.keep_edit_spec.proofs.Lists.DottedLine as line
use Rattle.keep_edit_spec.proofs.Lists.LineOnWay.{AddsOnWay, dotted_on_way, line_on_way}
use Rattle.keep_edit_spec.proofs.Lists.NewHolder.{body_node, holder_of_node, lead_node, no_node, nothing_under}
use Rattle.keep_edit_spec.proofs.Lists.NewHolder.{path_new}
use Rattle.keep_edit_spec.proofs.Lists.NewPaths.{InsertsKeys, dotted_keys, first_path, line_keys, unsaid}
use Rattle.keep_edit_spec.proofs.Lists.OneLineMore.{last_with, none_still, or_new, reading_alike}
use Rattle.keep_edit_spec.proofs.Lists.OwnKinds.{keyval_silent}
use Rattle.keep_edit_spec.proofs.Lists.Places.{at_is, item_none, later_line, line_is, width}
use Rattle.keep_edit_spec.proofs.Lists.PutsKeyval.{PutsKeyval, few_still, first_long, line_puts, lines_are, place_after}
use Rattle.keep_edit_spec.proofs.Lists.SaidOfPrefixes.{any_kinds, enclosing_same}
use Rattle.keep_edit_spec.proofs.Lists.SaidOnWay.{fact_stays, kinds_beside}

-- ---- what dotted keys say at the path of the first

-- nothing at the root
none_at_root : (k : List ℕ) (ks : List (List ℕ)) (inner : List Mention)
    → kinds_at [] (keyed_mentions (k ∷ ks) inner) ≡ []
none_at_root k [] inner =
    kinds_at-under (key k ∷ []) [] (map (below (key k ∷ [])) inner) (under_below (key k ∷ []) inner) refl
none_at_root k (l ∷ ks) inner =
    let all : List Mention = record { path = []; kind = dotted } ∷ keyed_mentions (l ∷ ks) inner in
    kinds_at-under (key k ∷ []) [] (map (below (key k ∷ [])) all) (under_below (key k ∷ []) all) refl

-- at the path of each but the last that it is dotted
inner_dotted : (way : List (List ℕ)) (k l : List ℕ) (ks : List (List ℕ)) (inner : List Mention)
    → kinds_at (map key (way ++ k ∷ [])) (keyed_mentions (way ++ k ∷ l ∷ ks) inner) ≡ dotted ∷ []
inner_dotted [] k l ks inner =
    kinds_at-below (key k ∷ []) [] (record { path = []; kind = dotted } ∷ keyed_mentions (l ∷ ks) inner)
    ∙ ap (λ (kinds : List MentionKind). dotted ∷ kinds) (none_at_root l ks inner)
inner_dotted (t ∷ []) k l ks inner =
    kinds_at-below (key t ∷ []) (key k ∷ [])
    (record { path = []; kind = dotted } ∷ keyed_mentions (k ∷ l ∷ ks) inner)
    ∙ inner_dotted [] k l ks inner
inner_dotted (t ∷ u ∷ way) k l ks inner =
    kinds_at-below (key t ∷ []) (map key (u ∷ way ++ k ∷ []))
    (record { path = []; kind = dotted } ∷ keyed_mentions (u ∷ way ++ k ∷ l ∷ ks) inner)
    ∙ inner_dotted (u ∷ way) k l ks inner

way_dotted : (b : List Part) (way : List (List ℕ)) (k l : List ℕ) (ks : List (List ℕ)) (inner : List Mention)
    → kinds_at (b ++ map key (way ++ k ∷ [])) (map (below b) (keyed_mentions (way ++ k ∷ l ∷ ks) inner)) ≡ dotted ∷ []
way_dotted b way k l ks inner =
    kinds_at-below b (map key (way ++ k ∷ [])) (keyed_mentions (way ++ k ∷ l ∷ ks) inner)
    ∙ inner_dotted way k l ks inner

both_empty : {A : Type 0} (xs ys : List A) → xs ++ ys ≡ [] → (xs ≡ []) × (ys ≡ [])
both_empty [] ys e = (refl, e)
both_empty (x ∷ xs) ys e = absurd cc

-- paths that go on by other keys are apart
keys_apart : (a : List Part) (k l : List ℕ) (ps qs : List Part) → k ≢ l → AreApart (a ++ key k ∷ ps) (a ++ key l ∷ qs)
keys_apart a k l ps qs differ = (
  strip_both a (key k ∷ ps) (key l ∷ qs) ∙ by (same_part (key k) (key l)) k l ps qs differ refl,
  strip_both a (key l ∷ qs) (key k ∷ ps) ∙ by (same_part (key l) (key k)) l k qs ps (λ e. differ (sym e)) refl,
)
  where
    by : (b : Bool) (k l : List ℕ) (ps qs : List Part) → k ≢ l → same_part (key k) (key l) ≡ b
        → strip (key k ∷ ps) (key l ∷ qs) ≡ None
    by true k l ps qs differ e =
        absurd (differ (let same : key k ≡ key l = same_part-sound (key k) (key l) e in cc))
    by false k l ps qs differ e = rw (strip, e) refl

-- the conditions of an insert's refusal, none of which holds
none_of : (node index deep foreign : Bool) (table : Bool) → node ≡ false → index ≡ false → table ≡ true → deep ≡ false
    → foreign ≡ false
    → first_that_holds ((not node && index, fault.NotFound) ∷ (node, fault.Exists) ∷ (not table, fault.NotTable)
    ∷ (deep, fault.TooDeep) ∷ (foreign, fault.Profile) ∷ []) ≡ None
none_of node index deep foreign table n i t d f = rw (n, i, t, d, f) refl

-- of one that is not refused the last two
last_two : (a b c d e : Bool) (f g h i j : EditFault)
    → first_that_holds ((a, f) ∷ (b, g) ∷ (c, h) ∷ (d, i) ∷ (e, j) ∷ []) ≡ None → (d ≡ false) × (e ≡ false)
last_two a b c d e f g h i j none =
    let one = none_holds a f ((b, g) ∷ (c, h) ∷ (d, i) ∷ (e, j) ∷ []) none in
    let two = none_holds b g ((c, h) ∷ (d, i) ∷ (e, j) ∷ []) one.1 in
    let three = none_holds c h ((d, i) ∷ (e, j) ∷ []) two.1 in
    let four = none_holds d i ((e, j) ∷ []) three.1 in
    (four.0, (none_holds e j [] four.1).0)

no_index : (ks : List (List ℕ)) → list_any is_index (map key ks) ≡ false
no_index [] = refl
no_index (k ∷ ks) = no_index ks

-- An insert that is not refused, and adds a line with these keys on the way before the line of that number.
record ThereToo (profile : Profile) (limit : ℕ) (s : Document) (n : ℕ) (way : List (List ℕ)) (path : List Part)
    (value : Value) (c : TextChange) : Type 0 where
  utf8 : AllByRecursion IsUtf8 (keys_in path)
  given : IsGivenValue Wide value
  inserts : InsertsKeys profile limit s path value
  adds : c.size ≡ 0
  few : n ≤ length s.ended
  at : c.at ≡ length (text_of (bom_leaves s.bom)) + width (take n s.ended)
  line : c.new ≡ text_of (ended_leaves
      (new_line (newline_of s) (keyval (name_with (way ++ inserts.text ∷ inserts.more)) value)))

module _ (profile : Profile) (limit : ℕ) (s : Document) (path : List Part) (value : Value) (c : TextChange)
    (other : List Part) (more : Value) (d : TextChange) (fine : IsEditable profile limit s)
    (way : AddsOnWay profile limit s path value)
    (put : PutsKeyval s (edited_document s (insert path value)) way.n
    (name_with (way.way ++ way.inserts.text ∷ way.inserts.more)) value c)
    (its : ThereToo profile limit s way.n way.way other more d) (same : first_new s path ≡ first_new s other)
    (own : List ℕ) (own_rest : List (List ℕ)) (next : List ℕ) (next_rest : List (List ℕ))
    (own_more : way.inserts.more ≡ own ∷ own_rest) (its_more : its.inserts.more ≡ next ∷ next_rest)
    (differ : own ≢ next) where
  abbrev ms : List Mention
  ms = mentions_in s

  abbrev now : Document
  now = edited_document s (insert path value)

  abbrev then : List Mention
  then = mentions_in now

  abbrev a : List Part
  a = holder path ms

  abbrev n : ℕ
  n = way.n

  -- its first new key, and that of the other
  abbrev text : List ℕ
  text = way.inserts.text

  abbrev its_text : List ℕ
  its_text = its.inserts.text

  abbrev its_keys : List (List ℕ)
  its_keys = way.way ++ its_text ∷ its.inserts.more

  abbrev name : Name
  name = name_with (way.way ++ text ∷ way.inserts.more)

  abbrev x : Ended
  x = new_line (newline_of s) (keyval name value)

  abbrev before : List Line
  before = take n (lines s)

  abbrev after : List Line
  after = drop n (lines s)

  abbrev r : Reading
  r = reading_after_lines start before

  abbrev first : List Part
  first = a ++ key text ∷ []

  mean : keys_of name.key ≡ way.way ++ text ∷ own ∷ own_rest
  mean = way.means ∙ ap (λ (ks : List (List ℕ)). way.way ++ text ∷ ks) own_more

  first_is : first_new s path ≡ first
  first_is = first_path profile limit s path value way.inserts

  -- from the body on
  first_at : first ≡ r.body ++ map key (way.way ++ text ∷ [])
  first_at =
      ap (λ (p : List Part). p ++ key text ∷ []) way.holds ∙ append_assoc r.body (map key way.way) (key text ∷ [])
      ∙ ap (λ (p : List Part). r.body ++ p) (sym (map-append key way.way (text ∷ [])))

  its_first : first ≡ holder other ms ++ key its_text ∷ []
  its_first = sym first_is ∙ same ∙ first_path profile limit s other more its.inserts

  same_holder : holder other ms ≡ a
  same_holder =
      sym (without_last-snoc (holder other ms) (key its_text)) ∙ ap (λ (p : List Part). without_last p) (sym its_first)
      ∙ without_last-snoc a (key text)

  -- the other path
  other_is : other ≡ first ++ map key (next ∷ next_rest)
  other_is =
      at_end.path_goes_on s other its_text its.inserts.more its.inserts.new
      ∙ ap (λ (p : List Part). p ++ map key its.inserts.more) (sym same ∙ first_is)
      ∙ ap (λ (ks : List (List ℕ)). first ++ map key ks) its_more

  other_whole : other ≡ r.body ++ map key its_keys
  other_whole =
      its.inserts.new ∙ ap (λ (p : List Part). p ++ map key (its_text ∷ its.inserts.more)) (same_holder ∙ way.holds)
      ∙ append_assoc r.body (map key way.way) (map key (its_text ∷ its.inserts.more))
      ∙ ap (λ (p : List Part). r.body ++ p) (sym (map-append key way.way (its_text ∷ its.inserts.more)))

  path_goes : path ≡ first ++ map key (own ∷ own_rest)
  path_goes =
      at_end.path_goes_on s path text way.inserts.more way.inserts.new
      ∙ ap (λ (p : List Part). p ++ map key way.inserts.more) first_is
      ∙ ap (λ (ks : List (List ℕ)). first ++ map key ks) own_more

  -- ---- what was said at the path of the first new key, and under it

  fresh : list_any (is_at first) ms ≡ false
  fresh = unsaid profile limit s path value way.inserts

  clear : AllOf (IsDisjoint first) ms
  clear = nothing_under s path a text way.inserts.more way.inserts.new fresh

  none_said : (q : List Part) → kinds_at (first ++ q) ms ≡ []
  none_said q = kinds_at-disjoint first (first ++ q) q ms clear (strip-append first q)

  not_node : is_node first ms ≡ false
  not_node =
      ap (λ (p : List Part). is_node p ms) (sym (append-nil first))
      ∙ no_node s path a text way.inserts.more way.inserts.new fresh []

  none_led : last_line (leads_dotted first) start (lines s) ≡ None
  none_led = by (last_line (leads_dotted first) start (lines s)) refl
    where
      by : (o : Option ℕ) → last_line (leads_dotted first) start (lines s) ≡ o
          → last_line (leads_dotted first) start (lines s) ≡ None
      by None e = e
      by (Some j) e = absurd (let node = lead_node s first j e in let both = sym node ∙ not_node in cc)

  none_ends : end_of s first ≡ None
  none_ends = by (end_of s first) refl
    where
      by : (o : Option ℕ) → end_of s first ≡ o → end_of s first ≡ None
      by None e = e
      by (Some j) e = absurd (let node = body_node s first j e in let both = sym node ∙ not_node in cc)

  -- ---- the new line

  now_are : lines now ≡ before ++ x.line ∷ after
  now_are = lines_are s now n name value c put

  cut : before ++ after ≡ lines s
  cut = take-append-drop n (lines s)

  leads : leads_dotted first r x.line ≡ true
  leads =
      ap₂ (λ (p : List Part) (ks : List (List ℕ)). has is_dotted p (map (below r.body) (keyed_mentions ks []))) first_at
      mean
      ∙ ap (list_any is_dotted) (way_dotted r.body way.way text own own_rest [])

  last_now : last_line (leads_dotted first) start (lines now) ≡ Some n
  last_now =
      ap (last_line (leads_dotted first) start) now_are
      ∙ last_with (leads_dotted first) start before x.line after refl leads
      ∙ ap (λ (o : Option ℕ). Some (or_new (length before) o))
      (ap (last_line (leads_dotted first) start) cut ∙ none_led)
      ∙ ap (λ (i : ℕ). Some i) (first_long s now n name value c put)

  bare : end_of now first ≡ None
  bare =
      bare_by s now first none_ends
      (λ none. ap (last_line (begins first) start) now_are
      ∙ none_still (begins first) start before x.line after refl refl (ap (last_line (begins first) start) cut ∙ none))

  node_now : is_node first then ≡ true
  node_now = lead_node now first n last_now

  -- ---- what is said then

  abbrev early : List Mention
  early = lines_mentions start before

  abbrev late : List Mention
  late = lines_mentions r after

  abbrev own_said : List Mention
  own_said = map (below r.body) (keyval_mentions name value)

  said : then ≡ early ++ (own_said ++ late)
  said = ap (lines_mentions start) now_are ∙ lines_mentions-append start before (x.line ∷ after)

  none_around : (kinds_at first early ≡ []) × (kinds_at first late ≡ [])
  none_around =
      both_empty (kinds_at first early) (kinds_at first late)
      (sym (kinds_at-append first early late) ∙ ap (kinds_at first) (sym (mentioned_before s n))
      ∙ ap (λ (p : List Part). kinds_at p ms) (sym (append-nil first)) ∙ none_said [])

  own_first : kinds_at first own_said ≡ dotted ∷ []
  own_first =
      ap₂ (λ (p : List Part) (ks : List (List ℕ)). kinds_at p (map (below r.body)
      (keyed_mentions ks (valued_mentions (kind_value (body_fact value.body)) (entries_mentions 0 value.nested)))))
      first_at mean
      ∙ way_dotted r.body way.way text own own_rest
      (valued_mentions (kind_value (body_fact value.body)) (entries_mentions 0 value.nested))

  said_first : kinds_at first then ≡ dotted ∷ []
  said_first =
      ap (kinds_at first) said ∙ kinds_at-append first early (own_said ++ late)
      ∙ ap₂ (λ (xs ys : List MentionKind). xs ++ ys) none_around.0
      (kinds_at-append first own_said late
      ∙ ap₂ (λ (xs ys : List MentionKind). xs ++ ys) own_first none_around.1)

  none_under : (q : List Part) → kinds_at (first ++ key next ∷ q) then ≡ []
  none_under q =
      kinds_beside profile limit s path value way (first ++ key next ∷ q)
      (keyval_silent (on_way.r profile limit s path value way).body
      (name_with (on_way.keys profile limit s path value way)) value (first ++ key next ∷ q)
      (subst (λ (p : List Part). AreApart p (first ++ key next ∷ q))
      (sym (on_way.path_is profile limit s path value way ∙ path_goes))
      (keys_apart first own next (map key own_rest) q differ)))
      ∙ none_said (key next ∷ q)

  unsaid_now : list_any (is_at (first ++ key next ∷ [])) then ≡ false
  unsaid_now =
      any_kinds (first ++ key next ∷ []) then ∙ ap (list_any (λ (kind : MentionKind). true)) (none_under [])

  -- ---- the holder, and no refusal

  holds : holder other then ≡ first
  holds = holder_of_node now other first next next_rest other_is unsaid_now node_now

  other_new : other ≡ holder other then ++ map key (next ∷ next_rest)
  other_new = other_is ∙ ap (λ (p : List Part). p ++ map key (next ∷ next_rest)) (sym holds)

  abbrev fact_of_kinds : List MentionKind → Option Fact
  fact_of_kinds kinds = first_of (filter_map fact_of kinds)

  fact_same : (q rest : List Part) → other ≡ q ++ rest → fact_at q then ≡ fact_at q ms
  fact_same q rest is = elim (none_or_some (strip first q)) [
    | inl e ↦ fact_stays profile limit s path value way q (ap (λ (p : List Part). strip p q) first_is ∙ e)
    | inr u ↦
        let split : q ≡ first ++ u.0 = strip-sound first q u.0 u.1 in
        ap (λ (p : List Part). fact_at p then) split
        ∙ by u.0 (sym other_is ∙ is ∙ ap (λ (p : List Part). p ++ rest) split)
        ∙ sym (ap (λ (p : List Part). fact_at p ms) split)
  ]
    where
      by : (u : List Part) → first ++ map key (next ∷ next_rest) ≡ (first ++ u) ++ rest
          → fact_at (first ++ u) then ≡ fact_at (first ++ u) ms
      by [] e =
          ap (λ (p : List Part). fact_at p then) (append-nil first) ∙ ap fact_of_kinds said_first
          ∙ sym (ap fact_of_kinds (none_said []))
      by (p ∷ u) e =
          let parts : key next ∷ map key next_rest ≡ p ∷ u ++ rest =
          sym (drop_prefix_parts first (map key (next ∷ next_rest))) ∙ ap (drop (length first)) e
          ∙ ap (drop (length first)) (append_assoc first (p ∷ u) rest) ∙ drop_prefix_parts first (p ∷ u ++ rest) in
          let part : p ≡ key next = cc in
          ap (λ (y : Part). fact_at (first ++ y ∷ u) then) part ∙ ap fact_of_kinds (none_under u)
          ∙ sym (ap (λ (y : Part). fact_at (first ++ y ∷ u) ms) part ∙ ap fact_of_kinds (none_said (key next ∷ u)))

  enclosed : enclosing other then ≡ enclosing other ms
  enclosed = enclosing_same ms then other fact_same

  tabled : is_table first then ≡ true
  tabled =
      ap (λ (kinds : List MentionKind). is_table_fact (fact_of_kinds kinds) && not (list_any is_element kinds))
      said_first

  was_allowed : (is_too_deep limit other more ms ≡ false) × (is_foreign profile more ≡ false)
  was_allowed =
      let b : List Part = holder other ms in
      last_two (not (is_node other ms) && list_any is_index (drop (length b) other)) (is_node other ms)
      (not (is_table b ms)) (is_too_deep limit other more ms) (is_foreign profile more) fault.NotFound fault.Exists
      fault.NotTable fault.TooDeep fault.Profile
      (sym (rw (item_none other b its_text its.inserts.more its.inserts.new ms, refusal_by) refl) ∙ its.inserts.allowed)

  allowed : refusal profile limit now (insert other more) ≡ None
  allowed =
      let b : List Part = holder other then in
      rw (item_none other b next next_rest other_new then, refusal_by)
      (none_of (is_node other then) (list_any is_index (drop (length b) other)) (is_too_deep limit other more then)
      (is_foreign profile more) (is_table b then)
      (path_new now other first next next_rest other_is unsaid_now)
      (ap (λ (p : List Part). list_any is_index (drop (length b) p)) other_new
      ∙ ap (list_any is_index) (drop_prefix_parts b (map key (next ∷ next_rest))) ∙ no_index (next ∷ next_rest))
      (ap (λ (p : List Part). is_table p then) holds ∙ tabled)
      (ap (λ (m : ℕ). nat_lt limit (m + value_depth more)) enclosed ∙ was_allowed.0) was_allowed.1)

  -- ---- the line, and its place

  body_now : (reading_at n (lines now)).body ≡ r.body
  body_now =
      ap (λ (ls : List Line). (reading_at n ls).body) now_are
      ∙ ap (λ (q : Reading). q.body)
      (reading_alike start before (x.line ∷ after) after n (omega (arith, first_long s now n name value c put)))
      ∙ ap (λ (ls : List Line). (reading_at n ls).body) cut

  keys_now : keys_in (drop (length (reading_at n (lines now)).body)
      (holder other then ++ drop (length (holder other then)) other)) ≡ its_keys
  keys_now =
      ap₂ (λ (b p : List Part). keys_in (drop (length b) (p ++ drop (length p) other))) body_now holds
      ∙ ap (λ (p : List Part). keys_in (drop (length r.body) p))
      (ap (λ (p : List Part). first ++ drop (length first) p) other_is
      ∙ ap (λ (p : List Part). first ++ p) (drop_prefix_parts first (map key (next ∷ next_rest))) ∙ sym other_is
      ∙ other_whole)
      ∙ ap keys_in (drop_prefix_parts r.body (map key its_keys)) ∙ keys_of_map its_keys

  changed_now : change now (insert other more) ≡ at_line now (suc n) (keyval (name_with its_keys) more ∷ [])
  changed_now =
      change_there now other more n (item_none other (holder other then) next next_rest other_new then)
      (ap (end_of now) holds ∙ bare)
      (ap (λ (p : List Part). last_line (leads_dotted p) start (lines now)) holds ∙ last_now)
      ∙ ap (λ (ks : List (List ℕ)). at_line now (suc n) (keyval (name_with ks) more ∷ [])) keys_now

  later : suc n ≡ later_line n n
  later = sym (later_from n n (omega arith))

  closed : suc n ≤ length now.ended
  closed = omega (arith, later, few_still s now n name value c put n its.few)

  place_now : place now (insert other more) ≡ put_in (moved_by c d.at) d.new
  place_now =
      place_after s now n name value c put profile (insert other more) (name_with its_keys) more n (suc n) d
      fine.valid.ended its.few later its.line its.at changed_now

  adds_here : AddsDotted profile limit now other more (moved c d)
  adds_here = record {
    utf8 = its.utf8;
    given = its.given;
    allowed = allowed;
    text = next;
    more = next_rest;
    new = other_new;
    bare = ap (end_of now) holds ∙ bare;
    number = n;
    last = ap (λ (p : List Part). last_line (leads_dotted p) start (lines now)) holds ∙ last_now;
    closed = closed;
    adds = its.adds;
    is = place_now;
  }

  new_first : first_new now other ≡ first_new s path ++ key next ∷ []
  new_first =
      at_end.first_is now other next next_rest other_new
      ∙ ap (λ (p : List Part). p ++ key next ∷ []) (holds ∙ sym first_is)

-- ---- by the paths alone

module _ (profile : Profile) (limit : ℕ) (s : Document) (path : List Part) (value : Value) (other : List Part)
    (more : Value) (h : InsertsKeys profile limit s path value) (k : InsertsKeys profile limit s other more)
    (same : first_new s path ≡ first_new s other) where
  -- two inserts of the same first new key have one holder
  holder_of_both : holder other (mentions_in s) ≡ holder path (mentions_in s)
  holder_of_both =
      let a : List Part = holder path (mentions_in s) in
      let b : List Part = holder other (mentions_in s) in
      let firsts : a ++ key h.text ∷ [] ≡ b ++ key k.text ∷ [] =
      sym (first_path profile limit s path value h) ∙ same ∙ first_path profile limit s other more k in
      sym (without_last-snoc b (key k.text)) ∙ ap (λ (p : List Part). without_last p) (sym firsts)
      ∙ without_last-snoc a (key h.text)

-- so both come to one place, as lines of one kind: at the end of the body
module _ (profile : Profile) (limit : ℕ) (s : Document) (path : List Part) (value : Value) (c : TextChange)
    (other : List Part) (more : Value) (d : TextChange) (h : AddsLine profile limit s path value c)
    (k : AddsLine profile limit s other more d) (same : first_new s path ≡ first_new s other) where
  line_holder : holder other (mentions_in s) ≡ holder path (mentions_in s)
  line_holder =
      holder_of_both profile limit s path value other more (line_keys profile limit s path value c h)
      (line_keys profile limit s other more d k) same

  line_number : k.number ≡ h.number
  line_number =
      let both : Some k.number ≡ Some h.number = sym k.ends ∙ ap (end_of s) line_holder ∙ h.ends in cc

  line_at : d.at ≡ length (text_of (bom_leaves s.bom)) + width (take h.number s.ended)
  line_at =
      at_is profile limit s other more d k
      ∙ ap (λ (i : ℕ). length (text_of (bom_leaves s.bom)) + width (take i s.ended)) line_number

  line_there : ThereToo profile limit s h.number [] other more d
  line_there = record {
    utf8 = k.utf8;
    given = k.given;
    inserts = line_keys profile limit s other more d k;
    adds = k.adds;
    few = h.closed;
    at = line_at;
    line = line_is profile limit s other more d k;
  }

-- or in the table that dotted keys make
module _ (profile : Profile) (limit : ℕ) (s : Document) (path : List Part) (value : Value) (c : TextChange)
    (other : List Part) (more : Value) (d : TextChange) (h : AddsDotted profile limit s path value c)
    (k : AddsDotted profile limit s other more d) (same : first_new s path ≡ first_new s other) where
  abbrev way_of : (p : List Part) (v : Value) (x : TextChange) → AddsDotted profile limit s p v x → List (List ℕ)
  way_of p v x g = (dotted_on_way profile limit s p v x g).way

  dotted_holder : holder other (mentions_in s) ≡ holder path (mentions_in s)
  dotted_holder =
      holder_of_both profile limit s path value other more (dotted_keys profile limit s path value c h)
      (dotted_keys profile limit s other more d k) same

  dotted_number : k.number ≡ h.number
  dotted_number =
      let both : Some k.number ≡ Some h.number =
      sym k.last ∙ ap (λ (p : List Part). last_line (leads_dotted p) start (lines s)) dotted_holder ∙ h.last in cc

  same_way : way_of other more d k ≡ way_of path value c h
  same_way =
      let b : List Part = (reading_at h.number (lines s)).body in
      let its : List (List ℕ) = way_of other more d k in
      let own : List (List ℕ) = way_of path value c h in
      let both : b ++ map key its ≡ b ++ map key own =
      ap (λ (i : ℕ). (reading_at i (lines s)).body ++ map key its) (sym dotted_number)
      ∙ sym (line.before profile limit s other more d k).whole ∙ dotted_holder
      ∙ (line.before profile limit s path value c h).whole in
      sym (keys_of_map its) ∙ ap keys_in (sym (drop_prefix_parts b (map key its)) ∙ ap (drop (length b)) both
      ∙ drop_prefix_parts b (map key own)) ∙ keys_of_map own

  dotted_at : d.at ≡ length (text_of (bom_leaves s.bom)) + width (take (suc h.number) s.ended)
  dotted_at =
      line.at_is profile limit s other more d k
      ∙ ap (λ (i : ℕ). length (text_of (bom_leaves s.bom)) + width (take (suc i) s.ended)) dotted_number

  dotted_there : ThereToo profile limit s (suc h.number) (way_of path value c h) other more d
  dotted_there = record {
    utf8 = k.utf8;
    given = k.given;
    inserts = dotted_keys profile limit s other more d k;
    adds = k.adds;
    few = h.closed;
    at = dotted_at;
    line = line.line_is profile limit s other more d k
        ∙ ap (λ (ks : List (List ℕ)). text_of (ended_leaves
        (new_line (newline_of s) (keyval (name_with (ks ++ k.text ∷ k.more)) more)))) same_way;
  }

pub one_holder : (kind : LineKind) (profile : Profile) (limit : ℕ) (s : Document) (path : List Part) (value : Value)
    (c : TextChange) (other : List Part) (more : Value) (d : TextChange) → kind ≢ WithHeader
    → AddsAs kind profile limit s path value c → AddsAs kind profile limit s other more d
    → first_new s path ≡ first_new s other
    → (holder other (mentions_in s) ≡ holder path (mentions_in s)) × (d.at ≡ c.at)
one_holder LastInBody profile limit s path value c other more d headless h k same = (
  line_holder profile limit s path value c other more d h k same,
  line_at profile limit s path value c other more d h k same ∙ sym (at_is profile limit s path value c h),
)
one_holder OfDotted profile limit s path value c other more d headless h k same = (
  dotted_holder profile limit s path value c other more d h k same,
  dotted_at profile limit s path value c other more d h k same ∙ sym (line.at_is profile limit s path value c h),
)
one_holder WithHeader profile limit s path value c other more d headless h k same = absurd (headless refl)

-- the keys by which a path goes on from its first new one
goes_on_by : (first : List Part) (ks : List (List ℕ)) (k : List ℕ) (rest : List Part)
    → first ++ map key ks ≡ first ++ key k ∷ rest → (more : List (List ℕ)) × (ks ≡ k ∷ more)
goes_on_by first ks k rest same =
    by ks
    (sym (drop_prefix_parts first (map key ks)) ∙ ap (drop (length first)) same
    ∙ drop_prefix_parts first (key k ∷ rest))
  where
    by : (ks : List (List ℕ)) → map key ks ≡ key k ∷ rest → (more : List (List ℕ)) × (ks ≡ k ∷ more)
    by [] e = absurd cc
    by (l ∷ ls) e = (ls, (let one : key l ≡ key k = cc in ap (λ (t : List ℕ). t ∷ ls) (let t : l ≡ k = cc in t)))

-- where both come to one place
more_on_way : (profile : Profile) (limit : ℕ) (s : Document) (path : List Part) (value : Value) (c : TextChange)
    (other : List Part) (more : Value) (d : TextChange) → IsEditable profile limit s
    → (way : AddsOnWay profile limit s path value)
    → PutsKeyval s (edited_document s (insert path value)) way.n
    (name_with (way.way ++ way.inserts.text ∷ way.inserts.more)) value c
    → ThereToo profile limit s way.n way.way other more d → first_new s path ≡ first_new s other
    → (apart : GoOnApart (first_new s path) path other)
    → AddsDotted profile limit (edited_document s (insert path value)) other more (moved c d)
    × (first_new (edited_document s (insert path value)) other ≡ key_below (first_new s path) apart.next)
more_on_way profile limit s path value c other more d fine way put its same apart =
    let h = way.inserts in
    let k = its.inserts in
    let goes : path ≡ first_new s path ++ map key h.more = at_end.path_goes_on s path h.text h.more h.new in
    let there : other ≡ first_new s path ++ map key k.more =
    at_end.path_goes_on s other k.text k.more k.new ∙ ap (λ (p : List Part). p ++ map key k.more) (sym same) in
    let own = goes_on_by (first_new s path) h.more apart.own apart.own_rest (sym goes ∙ apart.path_is) in
    let next = goes_on_by (first_new s path) k.more apart.next apart.rest (sym there ∙ apart.other_is) in (
      adds_here profile limit s path value c other more d fine way put its same apart.own own.0 apart.next next.0 own.1
          next.1 apart.differ,
      new_first profile limit s path value c other more d fine way put its same apart.own own.0 apart.next next.0 own.1
          next.1 apart.differ,
    )

pub adds_more_key : AddsMoreKey
adds_more_key profile limit s path value c LastInBody other more d fine headless h k same apart =
    more_on_way profile limit s path value c other more d fine (line_on_way profile limit s path value c h)
    (line_puts profile limit s path value c fine h) (line_there profile limit s path value c other more d h k same) same
    apart
adds_more_key profile limit s path value c OfDotted other more d fine headless h k same apart =
    more_on_way profile limit s path value c other more d fine (dotted_on_way profile limit s path value c h)
    (line.puts profile limit s path value c h fine)
    (dotted_there profile limit s path value c other more d h k same) same apart
adds_more_key profile limit s path value c WithHeader other more d fine headless h k same apart =
    absurd (headless refl)
