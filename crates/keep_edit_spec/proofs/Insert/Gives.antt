-- What an act does beyond a path where there is a value is what is done at that value: in entries.
--
-- `Gives` says: where the first of two changes exists, the second is the same. The first is an act that is done at the
-- end of a path alone, the second the act itself with more of the path left. The proof is an induction over the entries
-- (`gives_entries`). Both searches have to take the same entries. The hard case is an entry that the longer path leads
-- into and the shorter one does not. But a path beyond the value is named in the document (`Holds`), and by the rules
-- no such entry is beside it (`none_longer`). At the value itself the two changes agree by assumption
-- (`gives_value-by`).
--
-- Theorems: `gives_value` and `gives_entries`.
use Rattle.std.proofs.Common.{◌≡◌, ℕ, ◌+◌, true, List, [], ◌∷◌, ◌++◌, map, refl, sym, ap, subst, ◌∙◌, append_assoc}
use Rattle.std.proofs.Common.{Option, Some, None, inl, inr}
use Rattle.std.specs.Prelude.{⊤}
use Rattle.std.specs.List.{filter_map}
use Rattle.std.proofs.lemmas.List.{append-nil}
use Rattle.keep_types.specs.declared.leaf.Profile.{Profile}
use Rattle.keep_syntax.specs.Tree.{Gap, Name, named_leaves, opening, closing, comma_leaves, Body, Entries, none, entry}
use Rattle.keep_syntax.specs.Tree.{Value, text_of}
use Rattle.keep_syntax.specs.Grammar.{Place, place_in, AreEntries, IsValue}
use Rattle.keep_meaning.specs.Fact.{Fact, is_value_fact}
use Rattle.keep_path.specs.Path.{Part, key, index}
use Rattle.keep_meaning.specs.Marks.{value, item, Mention, below, fact_of}
use Rattle.keep_meaning.specs.Meaning.{key_value, further_value, keys_of, body_fact, valued_mentions, keyed_mentions}
use Rattle.keep_meaning.specs.Meaning.{entry_mentions, entries_mentions, step, mentions_of_value}
use Rattle.keep_meaning.specs.Nodes.{fact_at, first_of}
use Rattle.keep_edit_spec.specs.Look.{strip}
use Rattle.keep_edit_spec.specs.Changed.{Changed, within, or_else}
use Rattle.keep_edit_spec.specs.Values.{Act, entry_prefix, entry_back, in_entries}
use Rattle.keep_edit_spec.proofs.Common.Runs.{AllOf, SomeOf, pairs_split, meet, some_right, Allowed, Rules, IsDisjoint}
use Rattle.keep_edit_spec.proofs.Common.Runs.{strip-sound, strip-append, kinds_at-under, none_or_some}
use Rattle.keep_edit_spec.proofs.Common.SetLaw.{IsAloneAt, keyed_split, keyed_disjoint, rules_named}
use Rattle.keep_edit_spec.proofs.Common.SetLaw.{disjoint_from_entry, no_entry}
use Rattle.keep_edit_spec.proofs.Common.SetDocument.{cancel, under_below}
use Rattle.keep_edit_spec.proofs.Common.LineLaws.{within_first, beyond, prefix_cases}
use Rattle.keep_edit_spec.proofs.Common.InsertLaw.{without_ways, dots_none}
use Rattle.keep_edit_spec.proofs.Common.ValueThere.{IsSome, some_cases}
use Rattle.keep_edit_spec.proofs.Common.DoneAtValue.{IsAtEnd, entries_root, step_facts, fact_join, disjoint_of_fact}
use Rattle.keep_edit_spec.proofs.Common.DoneAtValue.{further_facts}

-- where the first makes a change, the second makes the same
abbrev pub Gives : {A : Type 0} → Option (Changed A) → Option (Changed A) → Type 0
Gives None p = ⊤
Gives (Some c) p = p ≡ Some c

pub gives_within : {A B : Type 0} (outer : A → B) (left right : List ℕ) (o p : Option (Changed A)) → Gives o p
    → Gives (within outer left right o) (within outer left right p)
gives_within outer left right None p h = tt
gives_within outer left right (Some c) p h = ap (within outer left right) h

pub gives_either : {A : Type 0} (o o' p p' : Option (Changed A)) → Gives o o' → Gives p p'
    → (o ≡ None → IsSome p → o' ≡ None) → Gives (or_else o p) (or_else o' p')
gives_either (Some c) o' p p' h g f = ap (λ x. or_else x p') h
gives_either None o' None p' h g f = tt
gives_either None o' (Some d) p' h g f = ap (λ x. or_else x p') (f refl tt) ∙ g

pub disjoint_not : (p q x : List Part) → strip p q ≡ None → q ≡ p ++ x → ⊥
disjoint_not p q x h e = let k : None ≡ Some x = sym h ∙ ap (strip p) e ∙ strip-append p x in cc

-- ---- named paths

abbrev pub IsNamedAt : List Part → Mention → Type 0
IsNamedAt p m = m.path ≡ p

pub named_beyond : (s x : List Part) (ms : List Mention) → SomeOf (IsNamedAt (s ++ x)) (map (below s) ms)
    → SomeOf (IsNamedAt x) ms
named_beyond s x [] h = absurd h
named_beyond s x (m ∷ ms) (inl e) = inl (cancel s m.path x e)
named_beyond s x (m ∷ ms) (inr h) = inr (named_beyond s x ms h)

pub never_named : (p x : List Part) (ms : List Mention) → AllOf (IsDisjoint p) ms → SomeOf (IsNamedAt (p ++ x)) ms → ⊥
never_named p x ms h s = let (m, e, a) = meet (IsNamedAt (p ++ x)) (IsDisjoint p) ms s h in disjoint_not p m.path x a e

pub never_alone : (p q x : List Part) (ms : List Mention) → AllOf (IsDisjoint p) ms → SomeOf (IsAloneAt q) ms
    → q ≡ p ++ x → ⊥
never_alone p q x ms h s e =
    let (m, here, a) = meet (IsAloneAt q) (IsDisjoint p) ms s h in disjoint_not p m.path x a (here.path ∙ e)

-- an entry's names, seen from its value
pub entry_named : (n : ℕ) (name : Option Name) (f : Fact) (nested : List Mention) (x : List Part)
    → SomeOf (IsNamedAt (step n name ++ x)) (entry_mentions n name f nested)
    → SomeOf (IsNamedAt x) (valued_mentions (item f) nested)
entry_named n None f nested x s = named_beyond (index n ∷ []) x (valued_mentions (item f) nested) s
entry_named n (Some name) f nested x s =
    let p : List Part = map key (keys_of name.key) in
    let ms : List Mention = valued_mentions (value f) nested in
    let both : SomeOf (IsNamedAt (p ++ x)) (keyed_mentions (keys_of name.key) [] ++ map (below p) ms) =
    subst (λ (l : List Mention). SomeOf (IsNamedAt (p ++ x)) l) (keyed_split (keys_of name.key) ms) s in
    elim (some_cases (IsNamedAt (p ++ x)) (keyed_mentions (keys_of name.key) []) (map (below p) ms) both) [
      | inl a ↦
          absurd (never_named p x (keyed_mentions (keys_of name.key) [])
          (keyed_disjoint (key_value name.key.first) (map further_value name.key.more)) a)
      | inr b ↦ (elim (named_beyond p x ms b) [ inl e ↦ inl e | inr deep ↦ inr deep ])
    ]

pub entry_alone : (n : ℕ) (name : Option Name) (f : Fact) (nested : List Mention)
    → SomeOf (IsAloneAt (step n name)) (entry_mentions n name f nested)
entry_alone n None f nested = inl (record { path = refl; kind = refl })
entry_alone n (Some name) f nested =
    let p : List Part = map key (keys_of name.key) in
    subst (λ (l : List Mention). SomeOf (IsAloneAt p) l)
    (sym (keyed_split (keys_of name.key) (valued_mentions (value f) nested)))
    (some_right (IsAloneAt p) (keyed_mentions (keys_of name.key) []) (map (below p) (valued_mentions (value f) nested))
    (inl (record { path = append-nil p; kind = refl })))

-- an entry tells nothing of what is not at or under its path
pub entry_elsewhere : (n : ℕ) (name : Option Name) (f : Fact) (nested : List Mention) (q : List Part)
    → strip (step n name) q ≡ None → fact_at q (entry_mentions n name f nested) ≡ None
entry_elsewhere n None f nested q e =
    ap (λ l. first_of (filter_map fact_of l))
    (kinds_at-under (index n ∷ []) q (map (below (index n ∷ [])) (valued_mentions (item f) nested))
    (under_below (index n ∷ []) (valued_mentions (item f) nested)) e)
entry_elsewhere n (Some name) f nested q e =
    let p : List Part = map key (keys_of name.key) in
    let ms : List Mention = valued_mentions (value f) nested in
    ap (fact_at q) (keyed_split (keys_of name.key) ms)
    ∙ without_ways q [] (keyed_mentions (keys_of name.key) []) (map (below p) ms) (dots_none (keys_of name.key))
    ∙ ap (λ l. first_of (filter_map fact_of l)) (kinds_at-under p q (map (below p) ms) (under_below p ms) e)

-- ---- what is said at a path and beyond it

-- the facts there, and that a path beyond it is named
pub record Holds (F : List Part → Option Fact) (dots a : List Part) (ms : List Mention) : Type 0 where
  pub facts : (q : List Part) → fact_at (a ++ q) ms ≡ F q
  pub named : SomeOf (IsNamedAt (a ++ dots)) ms

module _ (F : List Part → Option Fact) (dots : List Part) (f : Fact) (there : F [] ≡ Some f)
    (valued : is_value_fact f ≡ true) where
  module _ (n : ℕ) (name : Option Name) (body : Body) (nested : Entries) (after : Gap) (comma : Option Gap)
      (rest : Entries) (path : List Part)
      (rules : Rules (entries_mentions n (entry name body nested after comma rest)))
      (h : Holds F dots path (entries_mentions n (entry name body nested after comma rest))) where
    abbrev first : List Mention
    first = entry_mentions n name (body_fact body) (entries_mentions 0 nested)

    -- in the entry
    pub holds_entry : (more : List Part) → path ≡ step n name ++ more
        → Holds F dots more (mentions_of_value (record { body = body; nested = nested }))
    holds_entry more e = record {
      facts = λ q. sym (step_facts n name body nested after comma rest rules (more ++ q))
          ∙ ap (λ (x : List Part). fact_at x (entries_mentions n (entry name body nested after comma rest)))
          (sym (append_assoc (step n name) more q) ∙ ap (λ (x : List Part). x ++ q) (sym e))
          ∙ h.facts q;
      named =
          (let whole : path ++ dots ≡ step n name ++ (more ++ dots) = ap (λ (x : List Part). x ++ dots) e
          ∙ append_assoc (step n name) more dots in
          let some : SomeOf (IsNamedAt (step n name ++ (more ++ dots))) (first ++ entries_mentions (n + 1) rest) =
          subst (λ (x : List Part). SomeOf (IsNamedAt x) (first ++ entries_mentions (n + 1) rest)) whole h.named in
          let disjoint : AllOf (IsDisjoint (step n name)) (entries_mentions (n + 1) rest) =
          subst (λ (x : List Part). AllOf (IsDisjoint x) (entries_mentions (n + 1) rest)) (append-nil (step n name))
          (disjoint_from_entry n name (body_fact body) (entries_mentions 0 nested) rest [] rules) in
          elim (some_cases (IsNamedAt (step n name ++ (more ++ dots))) first (entries_mentions (n + 1) rest) some) [
            | inl s ↦ entry_named n name (body_fact body) (entries_mentions 0 nested) (more ++ dots) s
            | inr s ↦ absurd (never_named (step n name) (more ++ dots) (entries_mentions (n + 1) rest) disjoint s)
          ]);
    }

    -- after the entry
    module _ (e : strip (step n name) path ≡ None) where
      fact_after : fact_at path (entries_mentions (n + 1) rest) ≡ Some f
      fact_after =
          sym (fact_join path first (entries_mentions (n + 1) rest)
          (entry_elsewhere n name (body_fact body) (entries_mentions 0 nested) path e))
          ∙ ap (λ (x : List Part). fact_at x (first ++ entries_mentions (n + 1) rest)) (sym (append-nil path))
          ∙ h.facts [] ∙ there

      first_disjoint : AllOf (IsDisjoint path) first
      first_disjoint = by path fact_after
        where
          by : (x : List Part) → fact_at x (entries_mentions (n + 1) rest) ≡ Some f → AllOf (IsDisjoint x) first
          by [] k = let z : None ≡ Some f = sym (entries_root (n + 1) rest) ∙ k in absurd cc
          by (p ∷ ps) k = disjoint_of_fact n name body nested rest p ps f rules k valued

      pub holds_after : Holds F dots path (entries_mentions (n + 1) rest)
      holds_after = record {
        facts = λ q. sym (further_facts n name body nested rest path f rules fact_after valued q) ∙ h.facts q;
        named = elim (some_cases (IsNamedAt (path ++ dots)) first (entries_mentions (n + 1) rest) h.named) [
          | inl s ↦ absurd (never_named path dots first first_disjoint s)
          | inr s ↦ s
        ];
      }

      -- nor does a longer path go through the entry
      pub none_longer : (more : List Part) → strip (step n name) (path ++ more) ≡ None
      none_longer more = elim (none_or_some (strip (step n name) (path ++ more))) [
        | inl k ↦ k
        | inr k ↦ (elim (prefix_cases (step n name) path more k.0 k.1) [
          | within_first u ↦ (let z : None ≡ Some u.0 = sym e ∙ u.1 in absurd cc)
          | beyond b bs w u ↦
              absurd (never_alone path (step n name) (b ∷ bs) first first_disjoint
              (entry_alone n name (body_fact body) (entries_mentions 0 nested)) w)
        ])
      ]

-- ---- the act

module _ (profile : Profile) (ended act : Act) (ends : IsAtEnd ended) (rest : List Part) (F : List Part → Option Fact)
    (dots : List Part) (f : Fact) (there : F [] ≡ Some f) (valued : is_value_fact f ≡ true)
    (same : (body : Body) (nested : Entries) → IsValue profile (record { body = body; nested = nested })
    → Rules (entries_mentions 0 nested) → Holds F dots [] (mentions_of_value (record { body = body; nested = nested }))
    → Gives (ended [] (record { body = body; nested = nested }))
    (or_else (within (λ es. record { body = body; nested = es }) (text_of (opening body)) (text_of (closing body))
    (in_entries act rest 0 nested)) (act rest (record { body = body; nested = nested })))) where
  gives_value-by : (more : List Part) (body : Body) (nested : Entries)
      → IsValue profile (record { body = body; nested = nested }) → Rules (entries_mentions 0 nested)
      → Holds F dots more (mentions_of_value (record { body = body; nested = nested }))
      → (Holds F dots more (entries_mentions 0 nested)
      → Gives (in_entries ended more 0 nested) (in_entries act (more ++ rest) 0 nested))
      → Gives (or_else (within (λ es. record { body = body; nested = es }) (text_of (opening body))
      (text_of (closing body)) (in_entries ended more 0 nested)) (ended more (record { body = body; nested = nested })))
      (or_else (within (λ es. record { body = body; nested = es }) (text_of (opening body)) (text_of (closing body))
      (in_entries act (more ++ rest) 0 nested)) (act (more ++ rest) (record { body = body; nested = nested })))
  gives_value-by [] body nested valid rules h deeper =
      subst (λ (o : Option (Changed Entries)).
      Gives (or_else (within (λ es. record { body = body; nested = es }) (text_of (opening body))
      (text_of (closing body)) o) (ended [] (record { body = body; nested = nested })))
      (or_else (within (λ es. record { body = body; nested = es }) (text_of (opening body)) (text_of (closing body))
      (in_entries act rest 0 nested)) (act rest (record { body = body; nested = nested }))))
      (sym (no_entry ended 0 nested)) (same body nested valid rules h)
  gives_value-by (p ∷ ps) body nested valid rules h deeper =
      let v : Value = record { body = body; nested = nested } in
      let outer : Entries → Value = λ es. record { body = body; nested = es } in
      let left : List ℕ = text_of (opening body) in
      let right : List ℕ = text_of (closing body) in
      let other : Option (Changed Value) = within outer left right (in_entries act ((p ∷ ps) ++ rest) 0 nested) in
      let named : SomeOf (IsNamedAt ((p ∷ ps) ++ dots)) (entries_mentions 0 nested) =
      elim h.named [ inl e ↦ (let k : [] ≡ (p ∷ ps) ++ dots = e in absurd cc) | inr s ↦ s ] in
      subst (λ (o : Option (Changed Value)).
      Gives (or_else (within outer left right (in_entries ended (p ∷ ps) 0 nested)) o)
      (or_else other (act ((p ∷ ps) ++ rest) v))) (sym (ends p ps v))
      (gives_either (within outer left right (in_entries ended (p ∷ ps) 0 nested)) other None (act ((p ∷ ps) ++ rest) v)
      (gives_within outer left right (in_entries ended (p ∷ ps) 0 nested) (in_entries act ((p ∷ ps) ++ rest) 0 nested)
      (deeper (record { facts = h.facts; named = named }))) tt (λ e s. absurd s))

  gives_entries-by : (path : List Part) (n : ℕ) (name : Option Name) (body : Body) (nested : Entries) (after : Gap)
      (comma : Option Gap) (more_entries : Entries)
      → IsValue profile (record { body = body; nested = nested })
      → Rules (entries_mentions n (entry name body nested after comma more_entries))
      → Holds F dots path (entries_mentions n (entry name body nested after comma more_entries))
      → (Holds F dots path (entries_mentions (n + 1) more_entries)
      → Gives (in_entries ended path (n + 1) more_entries) (in_entries act (path ++ rest) (n + 1) more_entries))
      → ((more : List Part) → Rules (entries_mentions 0 nested) → Holds F dots more (entries_mentions 0 nested)
      → Gives (in_entries ended more 0 nested) (in_entries act (more ++ rest) 0 nested))
      → (o : Option (List Part)) → strip (step n name) path ≡ o → (o' : Option (List Part))
      → strip (step n name) (path ++ rest) ≡ o'
      → Gives {A = Entries} (elim o [
        | None ↦
            within (entry name body nested after comma)
            (entry_prefix name body nested ++ (text_of after ++ text_of (comma_leaves comma))) []
            (in_entries ended path (n + 1) more_entries)
        | Some more ↦
            within (λ v. entry name v.body v.nested after comma more_entries) (text_of (named_leaves name))
            (entry_back after comma more_entries)
            (or_else (within (λ es. record { body = body; nested = es }) (text_of (opening body))
            (text_of (closing body)) (in_entries ended more 0 nested))
            (ended more (record { body = body; nested = nested })))
      ]) (elim o' [
        | None ↦
            within (entry name body nested after comma)
            (entry_prefix name body nested ++ (text_of after ++ text_of (comma_leaves comma))) []
            (in_entries act (path ++ rest) (n + 1) more_entries)
        | Some more ↦
            within (λ v. entry name v.body v.nested after comma more_entries) (text_of (named_leaves name))
            (entry_back after comma more_entries)
            (or_else (within (λ es. record { body = body; nested = es }) (text_of (opening body))
            (text_of (closing body)) (in_entries act more 0 nested))
            (act more (record { body = body; nested = nested })))
      ])
  gives_entries-by path n name body nested after comma more_entries valid rules h further deeper None e None e' =
      gives_within (entry name body nested after comma) _ [] (in_entries ended path (n + 1) more_entries)
      (in_entries act (path ++ rest) (n + 1) more_entries)
      (further (holds_after F dots f there valued n name body nested after comma more_entries path rules h e))
  gives_entries-by path n name body nested after comma more_entries valid rules h further deeper None e (Some x) e' =
      let k : None ≡ Some x =
      sym (none_longer F dots f there valued n name body nested after comma more_entries path rules h e rest) ∙ e' in
      absurd cc
  gives_entries-by path n name body nested after comma more_entries valid rules h further deeper (Some more) e o' e' =
      let whole : path ≡ step n name ++ more = strip-sound (step n name) path more e in
      let longer : o' ≡ Some (more ++ rest) =
      sym e' ∙ ap (λ (x : List Part). strip (step n name) (x ++ rest)) whole
      ∙ ap (strip (step n name)) (append_assoc (step n name) more rest) ∙ strip-append (step n name) (more ++ rest) in
      let inner : Rules (entries_mentions 0 nested) = rules_named n name (body_fact body) (entries_mentions 0 nested)
      (pairs_split Allowed (entry_mentions n name (body_fact body) (entries_mentions 0 nested))
      (entries_mentions (n + 1) more_entries) rules).left in
      let there_holds =
      holds_entry F dots f there valued n name body nested after comma more_entries path rules h more whole in
      rw longer (gives_within (λ v. entry name v.body v.nested after comma more_entries) (text_of (named_leaves name))
      (entry_back after comma more_entries) _ _
      (gives_value-by more body nested valid inner there_holds (deeper more inner)))

  pub gives_entries : (place : Place) (path : List Part) (n : ℕ) (es : Entries) → AreEntries profile place es
      → Rules (entries_mentions n es) → Holds F dots path (entries_mentions n es)
      → Gives (in_entries ended path n es) (in_entries act (path ++ rest) n es)
  gives_entries place path n none valid rules h = tt
  gives_entries place path n (entry name body nested after comma more_entries) (hn, hb, hi, ha, hc, hr) rules h =
      let split =
      pairs_split Allowed (entry_mentions n name (body_fact body) (entries_mentions 0 nested))
      (entries_mentions (n + 1) more_entries) rules in
      gives_entries-by path n name body nested after comma more_entries (record { body = hb; nested = hi }) rules h
      (λ k. gives_entries place path (n + 1) more_entries hr split.right k)
      (λ more inner k. gives_entries (place_in body) more 0 nested hi inner k)
      (strip (step n name) path) refl (strip (step n name) (path ++ rest)) refl

  pub gives_value : (more : List Part) (body : Body) (nested : Entries)
      → IsValue profile (record { body = body; nested = nested }) → Rules (entries_mentions 0 nested)
      → Holds F dots more (mentions_of_value (record { body = body; nested = nested }))
      → Gives (or_else (within (λ es. record { body = body; nested = es }) (text_of (opening body))
      (text_of (closing body)) (in_entries ended more 0 nested)) (ended more (record { body = body; nested = nested })))
      (or_else (within (λ es. record { body = body; nested = es }) (text_of (opening body)) (text_of (closing body))
      (in_entries act (more ++ rest) 0 nested)) (act (more ++ rest) (record { body = body; nested = nested })))
  gives_value more body nested valid rules h =
      gives_value-by more body nested valid rules h
      (λ k. gives_entries (place_in body) more 0 nested valid.nested rules k)
