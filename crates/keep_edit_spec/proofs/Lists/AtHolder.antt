-- An insert or a remove of an entry, by its path, does what an act does that is done at the value alone that holds it.
--
-- That act is `ended`: it does nothing deeper than that value, and changes nothing where there is nothing to do. Both
-- give the same change (GivesLines), if the insert or the remove does nothing inside an entry: a path of one step ends
-- at an entry, where a remove and an insert of an item have no step left (`nothing_deeper`, by induction over the
-- entries). An insert of a keyval does nothing there since no entry is on its way: its path is new (BracesPlace). An
-- insert can put into any array, and into any inline table. A remove can take out an entry that has a fact, since an
-- entry has that index or key then (`named_of_fact`).
--
-- Theorems: `gives_item`, `gives_keyval`, `gives_removal`; `nothing_deeper`, `gives_here`: of any act; `inline_table`:
-- an inline table is a table.
use Rattle.std.proofs.Common.{◌≡◌, ℕ, ◌+◌, Bool, true, false, List, [], ◌∷◌, ◌++◌, map, refl, sym, ap, subst}
use Rattle.std.proofs.Common.{◌∙◌, Option, Some, None, inl, inr}
use Rattle.std.specs.Prelude.{codes}
use Rattle.std.specs.List.{list_any}
use Rattle.std.proofs.lemmas.List.{append-nil}
use Rattle.keep_types.specs.declared.leaf.Profile.{Profile}
use Rattle.keep_syntax.specs.Tree.{Gap, Name, opening, closing, Body, scalar, array, inline}
use Rattle.keep_syntax.specs.Tree.{Entries, none, entry, Value, Document, text_of}
use Rattle.keep_syntax.specs.Grammar.{IsDocument, IsValue}
use Rattle.keep_path.specs.Path.{Part, key, index, same_path}
use Rattle.keep_meaning.specs.Fact as fact
use Rattle.keep_meaning.specs.Fact.{Fact, is_value_fact}
use Rattle.keep_meaning.specs.Meaning.{body_fact, entries_mentions, entry_mentions, further_value, lines, step}
use Rattle.keep_meaning.specs.Meaning.{mentions_in, mentions_of_value}
use Rattle.keep_meaning.specs.Marks.{Mention}
use Rattle.keep_meaning.specs.Nodes.{fact_at, has, is_at, is_element}
use Rattle.keep_edit_spec.specs.AddedItems.{item_path}
use Rattle.keep_edit_spec.specs.Look.{is_bracket_at, is_table, strip}
use Rattle.keep_edit_spec.specs.Changed.{Changed, within, or_else}
use Rattle.keep_edit_spec.specs.Values.{Act, Row, entry_prefix, in_entries, in_value, is_last_named, put_after}
use Rattle.keep_edit_spec.specs.Values.{put_before, put_item, put_named, removal, take_out}
use Rattle.keep_edit_spec.specs.Edits.{name_with, nested}
use Rattle.keep_edit_spec.proofs.Common.InsertLaw.{fresh_disjoint}
use Rattle.keep_edit_spec.proofs.Common.Runs.{AllOf, IsDisjoint, SomeOf, Rules, none_or_some, same_path-refl}
use Rattle.keep_edit_spec.proofs.Common.Runs.{strip-sound}
use Rattle.keep_edit_spec.proofs.Common.RemoveThere.{IsNamedIn, some_removal}
use Rattle.keep_edit_spec.proofs.Common.SetLaw.{IsAloneAt, no_entry}
use Rattle.keep_edit_spec.proofs.Common.ValueThere.{IsSome, some_within, some_second, alone_of_fact}
use Rattle.keep_edit_spec.proofs.Common.DoneAtValue.{fact_join}
use Rattle.keep_edit_spec.proofs.Insert.BracesPlace.{IsBracesPlace, apt_braces, is_inline}
use Rattle.keep_edit_spec.proofs.Insert.DoneThere.{IsApt, apt_gives, ended, same_value}
use Rattle.keep_edit_spec.proofs.Insert.Gives.{Gives, IsNamedAt, entry_elsewhere}
use Rattle.keep_edit_spec.proofs.Insert.GivesLines.{gives_nested}
use Rattle.keep_edit_spec.proofs.Insert.HolderFacts.{no_bracket_element}
use Rattle.keep_edit_spec.proofs.Insert.ItemThere.{is_array, array_body}

-- ---- a path of one step

rest_none : (ks : List (List ℕ)) (more : List Part) → map key ks ++ more ≡ [] → more ≡ []
rest_none [] more e = e
rest_none (k ∷ ks) more e = absurd cc

pub one_step : (p : Part) (n : ℕ) (name : Option Name) (more : List Part) → p ∷ [] ≡ step n name ++ more → more ≡ []
one_step p n None more e = let k : [] ≡ more = cc in sym k
one_step p n (Some name) more e =
    rest_none (map further_value name.key.more) more
    (let k : [] ≡ map key (map further_value name.key.more) ++ more = cc in sym k)

module _ (act : Act) (rootless : (v : Value) → act [] v ≡ None) where
  at_end : (v : Value) (ps : List Part) → ps ≡ [] → in_value act ps v ≡ None
  at_end v [] e =
      ap (λ (o : Option (Changed Entries)).
      or_else (within (λ es. record v { nested = es }) (text_of (opening v.body)) (text_of (closing v.body)) o)
      (act [] v)) (no_entry act 0 v.nested) ∙ rootless v
  at_end v (q ∷ qs) e = absurd cc

  pub nothing_deeper : (p : Part) (n : ℕ) (es : Entries) → in_entries act (p ∷ []) n es ≡ None
  nothing_deeper p n none = refl
  nothing_deeper p n (entry name body nested after comma rest) =
      by (strip (step n name) (p ∷ [])) refl (nothing_deeper p (n + 1) rest)
    where
      by : (o : Option (List Part)) → strip (step n name) (p ∷ []) ≡ o
          → in_entries act (p ∷ []) (n + 1) rest ≡ None
          → in_entries act (p ∷ []) n (entry name body nested after comma rest) ≡ None
      by None e further = rw (in_entries, e) (ap (within (entry name body nested after comma) _ []) further)
      by (Some ps) e further =
          rw (in_entries, e) (ap (within (λ (v : Value). entry name v.body v.nested after comma rest) _ _)
          (at_end (record { body = body; nested = nested }) ps
          (one_step p n name ps (strip-sound (step n name) (p ∷ []) ps e))))

-- ---- at the array

pub some_named : (p : List Part) (ms : List Mention) → SomeOf (IsAloneAt p) ms → SomeOf (IsNamedAt (p ++ [])) ms
some_named p [] s = absurd s
some_named p (m ∷ ms) (inl a) = inl (a.path ∙ sym (append-nil p))
some_named p (m ∷ ms) (inr s) = inr (some_named p ms s)

pub gives_here : {A B : Type 0} (outer : A → B) (left right : List ℕ) (i : Option (Changed A)) (o : Option (Changed B))
    (x : Changed B) → i ≡ None → IsSome o
    → Gives (or_else o (Some x)) (or_else (within outer left right i) o)
gives_here outer left right None (Some c) x e h = refl
gives_here outer left right None None x e h = absurd h
gives_here outer left right (Some d) o x e h = absurd cc

pub there_too : (a : List Part) (ms : List Mention) (f : Fact) → fact_at a ms ≡ Some f → fact_at (a ++ []) ms ≡ Some f
there_too a ms f at = ap (λ (x : List Part). fact_at x ms) (append-nil a) ∙ at

-- ---- an item comes

abbrev pub put_at : Value → ℕ → Act
put_at new n = ended is_array (put_item new) (index n ∷ [])

-- any array can take an item
pub some_item : (more : Value) (n : ℕ) (gap : Gap) (nested : Entries)
    → IsSome (put_item more (index n ∷ []) (record { body = array gap; nested = nested }))
some_item more n gap none = tt
some_item more n gap (entry name body nested after comma rest) =
    some_within (λ es. record { body = array gap; nested = es }) (codes "[" ++ text_of gap) (codes "]")
    (or_else (put_before n more es) (put_after [] None more es))
    (some_second (put_before n more es) (put_after [] None more es) (some_second _ (Some _) tt))
  where
    es : Entries
    es = entry name body nested after comma rest

pub gives_item : (profile : Profile) (s : Document) (a : List Part) (more : Value) (n : ℕ) → IsDocument profile s
    → Rules (mentions_in s) → fact_at a (mentions_in s) ≡ Some fact.array
    → Gives (nested (put_at more n) a s) (nested (put_item more) (item_path a n) s)
gives_item profile s a more n valid rules at =
    gives_nested profile (put_at more n) (put_item more) (λ p ps v. refl) (index n ∷ [])
    (λ q. fact_at (a ++ q) (mentions_in s)) [] fact.array there refl
    (λ body nested h r k. by body nested (array_body body (k.facts [] ∙ there)))
    a s valid rules
    (record {
      facts = λ q. refl;
      named = some_named a (mentions_in s) (alone_of_fact a (mentions_in s) fact.array at refl);
    })
  where
    there : fact_at (a ++ []) (mentions_in s) ≡ Some fact.array
    there = there_too a (mentions_in s) fact.array at

    by : (body : Body) (nested : Entries) → is_array body ≡ true
        → Gives (put_at more n [] (record { body = body; nested = nested }))
        (in_value (put_item more) (index n ∷ []) (record { body = body; nested = nested }))
    by (scalar w) nested e = absurd cc
    by (inline gap) nested e = absurd cc
    by (array gap) nested e =
        gives_here (λ es. record { body = array gap; nested = es }) (text_of (opening (array gap)))
        (text_of (closing (array gap))) (in_entries (put_item more) (index n ∷ []) 0 nested)
        (put_item more (index n ∷ []) (record { body = array gap; nested = nested }))
        (same_value (record { body = array gap; nested = nested }))
        (nothing_deeper (put_item more) (λ v. refl) (index n) 0 nested) (some_item more n gap nested)

-- ---- a keyval comes

abbrev pub put_keyval_at : Value → List ℕ → Act
put_keyval_at new k = ended is_inline (put_named name_with 1 new) (key k ∷ [])

pub inline_table : (a : List Part) (ms : List Mention) → Rules ms → fact_at a ms ≡ Some fact.inline
    → is_table a ms ≡ true
inline_table a ms rules at = by (has is_element a ms) refl
  where
    by : (b : Bool) → has is_element a ms ≡ b → is_table a ms ≡ true
    by false e = rw (at, e) refl
    by true e = absurd (no_bracket_element a ms rules e (rw (at, is_bracket_at) refl))

-- an inline table takes a keyval at a path that names nothing
inline_place : (s : Document) (a : List Part) (k : List ℕ) → Rules (mentions_in s)
    → fact_at a (mentions_in s) ≡ Some fact.inline → list_any (is_at (a ++ key k ∷ [])) (mentions_in s) ≡ false
    → IsBracesPlace s a [] k
inline_place s a k rules at new = record {
  fact = fact.inline;
  here = at;
  valued = refl;
  none = λ b bs r e. absurd (let none : [] ≡ (b ∷ bs) ++ r = e in cc);
  fresh = subst (λ (p : List Part). AllOf (IsDisjoint (p ++ key k ∷ [])) (mentions_in s)) (sym (append-nil a))
      (fresh_disjoint (a ++ key k ∷ []) (lines s) (a, k, refl) new);
  table = subst (λ (p : List Part). is_table p (mentions_in s) ≡ true) (sym (append-nil a))
      (inline_table a (mentions_in s) rules at);
  named = some_named a (mentions_in s) (alone_of_fact a (mentions_in s) fact.inline at refl);
}

pub gives_keyval : (profile : Profile) (s : Document) (a : List Part) (new : Value) (k : List ℕ)
    → IsDocument profile s → Rules (mentions_in s) → fact_at a (mentions_in s) ≡ Some fact.inline
    → list_any (is_at (a ++ key k ∷ [])) (mentions_in s) ≡ false
    → Gives (nested (put_keyval_at new k) a s) (nested (put_named name_with 1 new) (a ++ key k ∷ []) s)
gives_keyval profile s a new k valid rules at free =
    gives_nested profile (put_keyval_at new k) (put_named name_with 1 new) (λ p ps v. refl) (key k ∷ [])
    (λ q. fact_at (a ++ q) (mentions_in s)) [] fact.inline (there_too a (mentions_in s) fact.inline at) refl
    (λ body nested h r held. by body nested (apt_braces profile s a [] k [] place body nested h r held new))
    a s valid rules (record { facts = λ q. refl; named = place.named })
  where
    place : IsBracesPlace s a [] k
    place = inline_place s a k rules at free

    by : (body : Body) (nested : Entries) → IsApt is_inline (put_named name_with 1 new) (key k ∷ []) body nested
        → Gives (put_keyval_at new k [] (record { body = body; nested = nested }))
        (in_value (put_named name_with 1 new) (key k ∷ []) (record { body = body; nested = nested }))
    by body nested apt =
        let v : Value = record { body = body; nested = nested } in
        apt_gives (is_inline body) (put_named name_with 1 new (key k ∷ []) v)
        (in_entries (put_named name_with 1 new) (key k ∷ []) 0 nested) v (λ es. record { body = body; nested = es })
        (text_of (opening body)) (text_of (closing body)) apt.fit apt.shallow apt.some

-- ---- an entry goes

abbrev pub any_body : Body → Bool
any_body body = true

abbrev pub take_at : Part → Act
take_at p = ended any_body removal (p ∷ [])

last_root : (n : ℕ) (es : Entries) → is_last_named [] n es ≡ false
last_root n none = refl
last_root n (entry None body nested after None none) = refl
last_root n (entry (Some name) body nested after None none) = refl
last_root n (entry name body nested after (Some gap) none) = refl
last_root n (entry name body nested after None (entry name' body' nested' after' comma' rest')) = refl
last_root n (entry name body nested after (Some gap) (entry name' body' nested' after' comma' rest')) = refl

take_out_root : (n : ℕ) (gap : Gap) (es : Entries) → take_out [] n gap es ≡ None
take_out_root n gap none = refl
take_out_root n gap (entry None body nested after None none) = refl
take_out_root n gap (entry (Some name) body nested after None none) = refl
take_out_root n gap (entry name body nested after None (entry name' body' nested' after' comma' rest')) = refl
take_out_root n gap (entry None body nested after (Some next) none) = refl
take_out_root n gap (entry (Some name) body nested after (Some next) none) = refl
take_out_root n gap (entry None body nested after (Some next) (entry name' body' nested' after' comma' rest')) =
    rw (take_out, last_root (n + 1) (entry name' body' nested' after' comma' rest'))
    (ap (within (λ r. record { gap = gap; entries = entry None body nested after (Some r.gap) r.entries })
    (text_of gap ++ (entry_prefix None body nested ++ (text_of after ++ codes ","))) [])
    (take_out_root (n + 1) next (entry name' body' nested' after' comma' rest')))
take_out_root n gap (entry (Some name) body nested after (Some next) (entry name' body' nested' after' comma' rest')) =
    rw (take_out, last_root (n + 1) (entry name' body' nested' after' comma' rest'))
    (ap (within (λ r. record { gap = gap; entries = entry (Some name) body nested after (Some r.gap) r.entries })
    (text_of gap ++ (entry_prefix (Some name) body nested ++ (text_of after ++ codes ","))) [])
    (take_out_root (n + 1) next (entry name' body' nested' after' comma' rest')))

removal_root : (v : Value) → removal [] v ≡ None
removal_root v = by v.body
  where
    by : (body : Body) → removal [] (record { body = body; nested = v.nested }) ≡ None
    by (scalar w) = refl
    by (array first) =
        ap (within (λ (r : Row). record { body = array r.gap; nested = r.entries }) (codes "[") (codes "]"))
        (take_out_root 0 first v.nested)
    by (inline first) =
        ap (within (λ (r : Row). record { body = inline r.gap; nested = r.entries }) (codes "{") (codes "}"))
        (take_out_root 0 first v.nested)

-- an entry has the index or the key of a fact
named_of_fact : (p : Part) (k : ℕ) (es : Entries) (f : Fact) → fact_at (p ∷ []) (entries_mentions k es) ≡ Some f
    → IsNamedIn (p ∷ []) k es
named_of_fact p k none f e = absurd cc
named_of_fact p k (entry name body nested after comma rest) f e =
    elim (none_or_some (strip (step k name) (p ∷ []))) [
      | inl other ↦
          inr (named_of_fact p (k + 1) rest f
          (sym (fact_join (p ∷ []) (entry_mentions k name (body_fact body) (entries_mentions 0 nested))
          (entries_mentions (k + 1) rest)
          (entry_elsewhere k name (body_fact body) (entries_mentions 0 nested) (p ∷ []) other)) ∙ e))
      | inr more ↦
          let whole : p ∷ [] ≡ step k name ++ more.0 = strip-sound (step k name) (p ∷ []) more.0 more.1 in
          let same : step k name ≡ p ∷ [] =
          sym (append-nil (step k name))
          ∙ ap (λ (q : List Part). step k name ++ q) (sym (one_step p k name more.0 whole)) ∙ sym whole in
          inl (ap (same_path (step k name)) (sym same) ∙ same_path-refl (step k name))
    ]

pub gives_removal : (profile : Profile) (s : Document) (a : List Part) (p : Part) (f g : Fact) → IsDocument profile s
    → Rules (mentions_in s) → fact_at a (mentions_in s) ≡ Some f → is_value_fact f ≡ true
    → fact_at (a ++ p ∷ []) (mentions_in s) ≡ Some g
    → Gives (nested (take_at p) a s) (nested removal (a ++ p ∷ []) s)
gives_removal profile s a p f g valid rules at valued there =
    gives_nested profile (take_at p) removal (λ q qs v. refl) (p ∷ [])
    (λ q. fact_at (a ++ q) (mentions_in s)) [] f (there_too a (mentions_in s) f at) valued
    (λ body nested h r k. by body nested h (k.facts (p ∷ []) ∙ there))
    a s valid rules
    (record {
      facts = λ q. refl;
      named = some_named a (mentions_in s) (alone_of_fact a (mentions_in s) f at valued);
    })
  where
    by : (body : Body) (nested : Entries) → IsValue profile (record { body = body; nested = nested })
        → fact_at (p ∷ []) (mentions_of_value (record { body = body; nested = nested })) ≡ Some g
        → Gives (take_at p [] (record { body = body; nested = nested }))
        (in_value removal (p ∷ []) (record { body = body; nested = nested }))
    by body nested h e =
        gives_here (λ es. record { body = body; nested = es }) (text_of (opening body)) (text_of (closing body))
        (in_entries removal (p ∷ []) 0 nested) (removal (p ∷ []) (record { body = body; nested = nested }))
        (same_value (record { body = body; nested = nested })) (nothing_deeper removal removal_root p 0 nested)
        (some_removal profile (p ∷ []) body nested h (named_of_fact p 0 nested g e))
