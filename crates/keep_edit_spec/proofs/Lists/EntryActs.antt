-- What an insert or a remove of an entry makes of a document is what an act makes of it that is done at the value alone
-- that holds the entry.
--
-- An insert of an item is done there by its number (`item_number`). An insert of a keyval has that value for its holder
-- (`holder_is`), and no line has to do with it (NoLines), so it is put in there too. A remove has three other searches
-- first (`changes`): but at a path under that of a value no line is the keyval (`not_own`), and none begins a body
-- (NoLines). What is left is the search in values, which AtHolder tells of.
--
-- Theorems: `inserted`, `inserted_keyval`, `removed_entry`; `keyval_number`, `holder_is`: of the path of a keyval.
use Rattle.std.proofs.Common.{◌≡◌, ℕ, suc, Bool, true, false, cond, List, [], ◌∷◌, ◌++◌, refl, sym, ap, ap₂, subst}
use Rattle.std.proofs.Common.{◌∙◌, arith, drop, length, length-append, Option, Some, None, inl, inr}
use Rattle.std.specs.List.{list_any}
use Rattle.std.proofs.lemmas.List.{append-nil}
use Rattle.keep_types.specs.declared.leaf.Profile.{Profile}
use Rattle.keep_syntax.specs.Tree.{Line, Name, Value, keyval, Document}
use Rattle.keep_path.specs.Path.{Part, key, index}
use Rattle.keep_meaning.specs.Fact as fact
use Rattle.keep_meaning.specs.Fact.{Fact, is_value_fact}
use Rattle.keep_meaning.specs.Marks.{Mention, Reading, start}
use Rattle.keep_meaning.specs.Meaning.{line_mentions, lines, mentions_in, reading_after_lines, step}
use Rattle.keep_meaning.specs.Nodes.{fact_at, is_at, is_node}
use Rattle.keep_edit_spec.specs.AddedItems.{item_path}
use Rattle.keep_edit_spec.specs.Changed.{Changed, or_else}
use Rattle.keep_edit_spec.specs.Edits.{change, change_insert, insert, name_with, nested, remove, without_lines}
use Rattle.keep_edit_spec.specs.Laws.{IsEditable}
use Rattle.keep_edit_spec.specs.Lines.{Page, begins, body_length, in_document, last_line}
use Rattle.keep_edit_spec.specs.Look.{holder, is_array_at, item_number, last_passing, prefixes}
use Rattle.keep_edit_spec.specs.Refusals.{has_value}
use Rattle.keep_edit_spec.specs.Values.{put_item, put_named, removal}
use Rattle.keep_edit_spec.proofs.Common.Cuts.{last_part-snoc, without_last-snoc}
use Rattle.keep_edit_spec.proofs.Common.Marks.{rules_of_document}
use Rattle.keep_edit_spec.proofs.Common.Runs.{Rules, SomeOf, same_path-refl}
use Rattle.keep_edit_spec.proofs.Common.SetDocument.{keyval_alone, mentions_of}
use Rattle.keep_edit_spec.proofs.Common.SetLaw.{IsAloneAt}
use Rattle.keep_edit_spec.proofs.Common.ValueThere.{IsSome, alone_of_fact}
use Rattle.keep_edit_spec.proofs.Insert.DoneThere.{gives_some}
use Rattle.keep_edit_spec.proofs.Insert.Gives.{IsNamedAt}
use Rattle.keep_edit_spec.proofs.Insert.HolderThere.{never_some}
use Rattle.keep_edit_spec.proofs.Insert.InsertBraces.{change_braces, no_lines}
use Rattle.keep_edit_spec.proofs.Insert.InsertWhole.{has_lines}
use Rattle.keep_edit_spec.proofs.Insert.LinesNamed.{some_among}
use Rattle.keep_edit_spec.proofs.Insert.NewPath.{drop_prefix_parts, mapped, passing_map}
use Rattle.keep_edit_spec.proofs.Insert.NoLines.{StatesEdits, value_no_begins, value_no_lines, value_none}
use Rattle.keep_edit_spec.proofs.Lists.AtHolder.{gives_item, gives_keyval, gives_removal, put_at, put_keyval_at}
use Rattle.keep_edit_spec.proofs.Lists.AtHolder.{take_at}
use Rattle.keep_edit_spec.proofs.Lists.ForeignPath as foreign
use Rattle.keep_edit_spec.proofs.Lists.RemovedPlaces.{mine}
use Rattle.keep_edit_spec.proofs.Lists.SetAllowed.{node_alone}
use Rattle.keep_edit_spec.proofs.Remove.RemoveLines.{IsOwnLine, own_line}

-- ---- an insert of an item

pub numbered : (a : List Part) (n : ℕ) (ms : List Mention) → is_array_at a ms ≡ true
    → item_number (item_path a n) ms ≡ Some n
numbered a n ms e = rw (item_number, last_part-snoc a (index n), without_last-snoc a (index n), e) refl

pub inserted : (profile : Profile) (limit : ℕ) (s : Document) (a : List Part) (n : ℕ) (value : Value)
    (c : Changed Document) → IsEditable profile limit s → is_array_at a (mentions_in s) ≡ true
    → fact_at a (mentions_in s) ≡ Some fact.array → nested (put_at value n) a s ≡ Some c
    → change s (insert (item_path a n) value) ≡ Some c
inserted profile limit s a n value c fine array_is at e =
    rw (change_insert, numbered a n (mentions_in s) array_is)
    (gives_some (nested (put_at value n) a s) (nested (put_item value) (item_path a n) s) c e
    (gives_item profile s a value n fine.valid (rules_of_document s fine.obeys) at))

-- ---- an insert of a keyval

pub keyval_number : (a : List Part) (k : List ℕ) (ms : List Mention) → item_number (a ++ key k ∷ []) ms ≡ None
keyval_number a k ms = rw (item_number, last_part-snoc a (key k)) refl

last_prefix : (T : List Part → Bool) (a : List Part) (p : Part) → T a ≡ true
    → last_passing T (prefixes (a ++ p ∷ [])) ≡ Some a
last_prefix T [] p e = rw e refl
last_prefix T (q ∷ a) p e =
    ap (λ (o : Option (List Part)). elim o [ Some y ↦ Some y | None ↦ cond (T []) (Some []) None ])
    (passing_map T (λ x. q ∷ x) (prefixes (a ++ p ∷ []))
    ∙ ap (mapped (λ x. q ∷ x)) (last_prefix (λ x. T (q ∷ x)) a p e))

-- a node holds each path that is one step longer
pub holder_is : (a : List Part) (p : Part) (ms : List Mention) → is_node a ms ≡ true → holder (a ++ p ∷ []) ms ≡ a
holder_is a p ms node =
    ap (λ (o : Option (List Part)). elim o [ Some x ↦ x | None ↦ [] ])
    (last_prefix (λ prefix. is_node prefix ms) a p node)

pub inserted_keyval : (profile : Profile) (limit : ℕ) (s : Document) (a : List Part) (k : List ℕ) (value : Value)
    (c : Changed Document) → IsEditable profile limit s → fact_at a (mentions_in s) ≡ Some fact.inline
    → list_any (is_at (a ++ key k ∷ [])) (mentions_in s) ≡ false → nested (put_keyval_at value k) a s ≡ Some c
    → change s (insert (a ++ key k ∷ []) value) ≡ Some c
inserted_keyval profile limit s a k value c fine at free e =
    change_braces s path value (keyval_number a k ms) (no_lines s (holder path ms) bare)
    ∙ ap (λ (n : ℕ). nested (put_named name_with n value) path s) one
    ∙ gives_some (nested (put_keyval_at value k) a s) (nested (put_named name_with 1 value) path s) c e
    (gives_keyval profile s a value k fine.valid rules at free)
  where
    ms : List Mention
    ms = mentions_in s

    path : List Part
    path = a ++ key k ∷ []

    rules : Rules (mentions_in s)
    rules = rules_of_document s fine.obeys

    alone : SomeOf (IsAloneAt a) (mentions_in s)
    alone = alone_of_fact a (mentions_in s) fact.inline at refl

    holds : holder (a ++ key k ∷ []) (mentions_in s) ≡ a
    holds = holder_is a (key k) (mentions_in s) (node_alone a (mentions_in s) alone)

    bare : has_lines s (holder (a ++ key k ∷ []) (mentions_in s)) ≡ false
    bare = ap (has_lines s) (holds ∙ sym (append-nil a)) ∙ value_no_lines s a [] rules alone

    one : length (drop (length (holder (a ++ key k ∷ []) (mentions_in s))) (a ++ key k ∷ [])) ≡ 1
    one =
        ap (λ (h : List Part). length (drop (length h) (a ++ key k ∷ []))) holds
        ∙ ap (λ (p : List Part). length p) (drop_prefix_parts a (key k ∷ []))

-- ---- a remove

named_alone : (p : List Part) (ms : List Mention) → SomeOf (IsAloneAt p) ms → SomeOf (IsNamedAt p) ms
named_alone p [] h = absurd h
named_alone p (m ∷ ms) (inl h) = inl h.path
named_alone p (m ∷ ms) (inr h) = inr (named_alone p ms h)

own_states : (p : List Part) → StatesEdits p (mine p)
own_states p r l e =
    let own : IsOwnLine r.body p l.content = own_line p r l.content e in
    subst (λ (q : List Part). SomeOf (IsNamedAt q) (line_mentions r l)) own.place
    (named_alone (r.body ++ step 0 (Some own.name)) (line_mentions r l)
    (subst (SomeOf (IsAloneAt (r.body ++ step 0 (Some own.name)))) (sym (mentions_of r l own.name own.held own.was))
    (keyval_alone r.body own.name own.held)))

-- the line of the value is none
longer_not_own : (a : List Part) (p : Part) (r : Reading) (l : Line) (name : Name) (v : Value) (more : List Part)
    → l.content ≡ keyval name v → a ≡ (r.body ++ step 0 (Some name)) ++ more → mine (a ++ p ∷ []) r l ≡ false
longer_not_own a p r l name v more content place = by (mine (a ++ p ∷ []) r l) refl
  where
    by : (b : Bool) → mine (a ++ p ∷ []) r l ≡ b → mine (a ++ p ∷ []) r l ≡ false
    by false e = e
    by true e =
        let own : IsOwnLine r.body (a ++ p ∷ []) l.content = own_line (a ++ p ∷ []) r l.content e in
        let same : keyval name v ≡ keyval own.name own.held = sym content ∙ own.was in
        let name_is : name ≡ own.name = cc in
        let begin : List Part = r.body ++ step 0 (Some name) in
        let whole : begin ≡ a ++ p ∷ [] = ap (λ (x : Name). r.body ++ step 0 (Some x)) name_is ∙ own.place in
        absurd (omega (
          arith,
          ap (λ (q : List Part). length q) whole,
          length-append a (p ∷ []),
          ap (λ (q : List Part). length q) place,
          length-append begin more,
        ))

module _ (s : Document) (a : List Part) (p : Part) (rules : Rules (mentions_in s))
    (alone : SomeOf (IsAloneAt a) (mentions_in s)) where
  abbrev path : List Part
  path = a ++ p ∷ []

  none_mine : last_line (mine path) start (lines s) ≡ None
  none_mine = value_none s a (p ∷ []) rules alone (mine path) (own_states path) (longer_not_own a p)

  not_own : (pre : List Line) (l : Line) (post : List Line) → lines s ≡ pre ++ l ∷ post
      → IsOwnLine (reading_after_lines start pre).body path l.content → ⊥
  not_own pre l post was own =
      let r : Reading = reading_after_lines start pre in
      let is : mine path r l ≡ true =
      ap (λ c. mine path r (record l { content = c })) own.was
      ∙ subst (λ (q : List Part). mine q r (record l { content = keyval own.name own.held }) ≡ true) own.place
      (same_path-refl (r.body ++ step 0 (Some own.name))) in
      never_some (last_line (mine path) start (lines s)) none_mine
      (subst (λ (ls : List Line). IsSome (last_line (mine path) start ls)) (sym was)
      (some_among (mine path) start pre l post is))

  changes : change s (remove path) ≡ nested removal path s
  changes =
      ap₂ (λ (o : Option (Changed Page)) (n : Option ℕ).
      or_else (in_document s o) (or_else (elim n [ None ↦ None | Some i ↦ without_lines s i 1 ])
      (or_else (elim (last_line (begins path) start (lines s)) [
        | None ↦ None
        | Some i ↦ without_lines s i (suc (body_length (drop (suc i) (lines s))))
      ]) (nested removal path s))))
      (foreign.bare s path not_own) none_mine
      ∙ ap (λ (n : Option ℕ). or_else (elim n [
        | None ↦ None
        | Some i ↦ without_lines s i (suc (body_length (drop (suc i) (lines s))))
      ]) (nested removal path s)) (value_no_begins s a (p ∷ []) rules alone)

fact_of_value : (o : Option Fact) → elim o [ None ↦ false | Some f ↦ is_value_fact f ] ≡ true
    → (f : Fact) × (o ≡ Some f) × (is_value_fact f ≡ true)
fact_of_value None e = absurd cc
fact_of_value (Some f) e = (f, refl, e)

pub removed_entry : (profile : Profile) (limit : ℕ) (s : Document) (a : List Part) (p : Part) (c : Changed Document)
    → IsEditable profile limit s → has_value a (mentions_in s) ≡ true
    → has_value (a ++ p ∷ []) (mentions_in s) ≡ true → nested (take_at p) a s ≡ Some c
    → change s (remove (a ++ p ∷ [])) ≡ Some c
removed_entry profile limit s a p c fine holds valued e =
    let rules : Rules (mentions_in s) = rules_of_document s fine.obeys in
    let (f, at, is) = fact_of_value (fact_at a (mentions_in s)) holds in
    let (g, there, its) = fact_of_value (fact_at (a ++ p ∷ []) (mentions_in s)) valued in
    changes s a p rules (alone_of_fact a (mentions_in s) f at is)
    ∙ gives_some (nested (take_at p) a s) (nested removal (a ++ p ∷ []) s) c e
    (gives_removal profile s a p f g fine.valid rules at is there)
