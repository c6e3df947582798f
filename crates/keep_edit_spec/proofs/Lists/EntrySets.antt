-- A set of an entry makes what the set of the value that holds it makes, also in a document where a value with the same
-- text is, at the same path or at another. The entry is an item of an array or a keyval of an inline table.
--
-- It is done at that value, by an act that goes on to the entry inside it (`gives_set`, GivesLines). The entry that has
-- a fact is found there, and then the value is deeper than the new entry by one (`found_deep`, by induction over the
-- entries: a path of one step ends at its entry). So the set of the entry makes the same (EntryMade). Nor is it refused
-- there: the entry has a value there too, and it is not too deep, since the set of the holder's value is not
-- (EntryInserts).
--
-- Theorems: `set_there`: it is done at the value; `set_same`, `set_allowed`.
use Rattle.std.proofs.Common.{◌≡◌, ℕ, suc, ◌+◌, ◌≤◌, Bool, true, List, [], ◌∷◌, ◌++◌, take, drop, refl, sym, ap}
use Rattle.std.proofs.Common.{subst, ◌∙◌, arith, ◌||◌, Option, Some, None}
use Rattle.std.specs.Prelude.{⊤}
use Rattle.std.proofs.lemmas.Bool.{ltb-false}
use Rattle.std.proofs.lemmas.List.{append-nil}
use Rattle.keep_types.specs.declared.leaf.Profile.{Profile}
use Rattle.keep_syntax.specs.Tree.{Gap, Name, named_leaves, opening, closing, Body, scalar, array, inline}
use Rattle.keep_syntax.specs.Tree.{Entries, none, entry, entries_depth, Value, Document, text, text_of, value_depth}
use Rattle.keep_syntax.specs.Grammar.{IsDocument}
use Rattle.keep_path.specs.Path.{Part, index, key}
use Rattle.keep_meaning.specs.Fact.{Fact, is_value_fact}
use Rattle.keep_meaning.specs.Meaning.{body_fact, entries_mentions, entry_mentions, mentions_in, mentions_of_value}
use Rattle.keep_meaning.specs.Meaning.{step}
use Rattle.keep_meaning.specs.Nodes.{fact_at}
use Rattle.keep_edit_spec.specs.Changed.{Changed, within, or_else}
use Rattle.keep_edit_spec.specs.Edits.{changed_or_same, edited_document, nested, set}
use Rattle.keep_edit_spec.specs.EntryEdits.{CanHold}
use Rattle.keep_edit_spec.specs.Laws.{IsEditable}
use Rattle.keep_edit_spec.specs.Look.{enclosing, strip}
use Rattle.keep_edit_spec.specs.Refusals.{has_value, refusal}
use Rattle.keep_edit_spec.specs.SetValues.{SetsValue}
use Rattle.keep_edit_spec.specs.TextChanges.{TextChange}
use Rattle.keep_edit_spec.specs.Values.{Act, entry_back, in_entries, in_value, replacement}
use Rattle.keep_edit_spec.proofs.Common.DoneAtValue.{fact_join}
use Rattle.keep_edit_spec.proofs.Common.InsertLaw.{or_true}
use Rattle.keep_edit_spec.proofs.Common.Marks.{rules_of_document}
use Rattle.keep_edit_spec.proofs.Common.Runs.{Rules, strip-sound}
use Rattle.keep_edit_spec.proofs.Common.SetLaw.{EachTo, no_entry}
use Rattle.keep_edit_spec.proofs.Common.ValueThere.{alone_of_fact, alone_of_has, fact_of_has}
use Rattle.keep_edit_spec.proofs.Insert.BracesPlace.{is_inline}
use Rattle.keep_edit_spec.proofs.Insert.DoneThere.{can_ended, ended, gives_some, same_value}
use Rattle.keep_edit_spec.proofs.Insert.Gives.{Gives, entry_elsewhere}
use Rattle.keep_edit_spec.proofs.Insert.GivesLines.{gives_nested}
use Rattle.keep_edit_spec.proofs.Insert.ItemThere.{array_body, is_array}
use Rattle.keep_edit_spec.proofs.Lists.AtHolder.{any_body, one_step, some_named, there_too}
use Rattle.keep_edit_spec.proofs.Lists.EntryInserts as inserts
use Rattle.keep_edit_spec.proofs.Lists.EntryInserts.{inline_body}
use Rattle.keep_edit_spec.proofs.Lists.EntryMade.{IsMadeThere, facts, its, made_by, same_valued, still_same, there}
use Rattle.keep_edit_spec.proofs.Lists.SetAllowed.{node_alone, unrefused}
use Rattle.keep_edit_spec.proofs.Set.SetIsLawful.{settable}

-- ---- a change, to what has a property

abbrev SomeTo : {A : Type 0} → (A → Type 0) → Option (Changed A) → Type 0
SomeTo P None = ⊥
SomeTo P (Some c) = P c.to

some_to_within : {A B : Type 0} (P : A → Type 0) (Q : B → Type 0) (outer : A → B) (left right : List ℕ)
    (o : Option (Changed A)) → ((y : A) → P y → Q (outer y)) → SomeTo P o → SomeTo Q (within outer left right o)
some_to_within P Q outer left right None f h = absurd h
some_to_within P Q outer left right (Some c) f h = f c.to h

-- then it is made before all others
each_to_first : {A : Type 0} (P : A → Type 0) (o p q : Option (Changed A)) → SomeTo P o
    → EachTo P (or_else (or_else o p) q)
each_to_first P None p q h = absurd h
each_to_first P (Some c) p q h = h

gives_first : {A : Type 0} (P : A → Type 0) (o p q : Option (Changed A)) → SomeTo P o
    → Gives (or_else (or_else o p) q) (or_else o p)
gives_first P None p q h = absurd h
gives_first P (Some c) p q h = refl

-- ---- in the entries

-- the path ends at an entry, whose value is replaced
replaced_here : (new : Value) (name : Option Name) (body : Body) (nested : Entries) (after : Gap) (comma : Option Gap)
    (rest : Entries) (ps : List Part) → ps ≡ []
    → SomeTo (λ fs. value_depth new ≤ entries_depth fs) (within {A = Value} {B = Entries}
    (λ v. entry name v.body v.nested after comma rest) (text_of (named_leaves name)) (entry_back after comma rest)
    (or_else (within (λ es. record { body = body; nested = es }) (text_of (opening body)) (text_of (closing body))
    (in_entries (replacement new) ps 0 nested)) (replacement new ps (record { body = body; nested = nested }))))
replaced_here new name body nested after comma rest [] e =
    rw (no_entry (replacement new) 0 nested) (omega arith)
replaced_here new name body nested after comma rest (q ∷ qs) e = absurd cc

found_deep : (new : Value) (p : Part) (n : ℕ) (es : Entries) (f : Fact)
    → fact_at (p ∷ []) (entries_mentions n es) ≡ Some f
    → SomeTo (λ fs. value_depth new ≤ entries_depth fs) (in_entries (replacement new) (p ∷ []) n es)
found_deep new p n none f e = absurd cc
found_deep new p n (entry name body nested after comma rest) f e =
    by (strip (step n name) (p ∷ [])) refl (λ g. found_deep new p (n + 1) rest f g)
  where
    by : (o : Option (List Part)) → strip (step n name) (p ∷ []) ≡ o
        → (fact_at (p ∷ []) (entries_mentions (n + 1) rest) ≡ Some f
        → SomeTo (λ fs. value_depth new ≤ entries_depth fs) (in_entries (replacement new) (p ∷ []) (n + 1) rest))
        → SomeTo (λ fs. value_depth new ≤ entries_depth fs)
        (in_entries (replacement new) (p ∷ []) n (entry name body nested after comma rest))
    by None other further =
        rw (in_entries, other)
        (some_to_within (λ fs. value_depth new ≤ entries_depth fs) (λ fs. value_depth new ≤ entries_depth fs)
        (entry name body nested after comma) _ [] (in_entries (replacement new) (p ∷ []) (n + 1) rest)
        (λ fs h. omega (arith, h))
        (further
        (sym (fact_join (p ∷ []) (entry_mentions n name (body_fact body) (entries_mentions 0 nested))
        (entries_mentions (n + 1) rest)
        (entry_elsewhere n name (body_fact body) (entries_mentions 0 nested) (p ∷ []) other)) ∙ e)))
    by (Some ps) here further =
        rw (in_entries, here)
        (replaced_here new name body nested after comma rest ps
        (one_step p n name ps (strip-sound (step n name) (p ∷ []) ps here)))

-- ---- at the value that holds the entry

abbrev pub set_at : Value → Part → Act
set_at new p = ended any_body (in_value (replacement new)) (p ∷ [])

pub gives_set : (profile : Profile) (s : Document) (a : List Part) (p : Part) (new : Value) (f g : Fact)
    → IsDocument profile s → Rules (mentions_in s) → fact_at a (mentions_in s) ≡ Some f → is_value_fact f ≡ true
    → fact_at (a ++ p ∷ []) (mentions_in s) ≡ Some g
    → Gives (nested (set_at new p) a s) (nested (replacement new) (a ++ p ∷ []) s)
gives_set profile s a p new f g valid rules at valued there =
    gives_nested profile (set_at new p) (replacement new) (λ q qs v. refl) (p ∷ [])
    (λ q. fact_at (a ++ q) (mentions_in s)) [] f (there_too a (mentions_in s) f at) valued
    (λ body nested h r k. by body nested (k.facts (p ∷ []) ∙ there))
    a s valid rules
    (record {
      facts = λ q. refl;
      named = some_named a (mentions_in s) (alone_of_fact a (mentions_in s) f at valued);
    })
  where
    by : (body : Body) (nested : Entries)
        → fact_at (p ∷ []) (mentions_of_value (record { body = body; nested = nested })) ≡ Some g
        → Gives (set_at new p [] (record { body = body; nested = nested }))
        (in_value (replacement new) (p ∷ []) (record { body = body; nested = nested }))
    by body nested e =
        gives_first (λ (v : Value). ⊤)
        (within (λ es. record { body = body; nested = es }) (text_of (opening body)) (text_of (closing body))
        (in_entries (replacement new) (p ∷ []) 0 nested)) None
        (Some (same_value (record { body = body; nested = nested })))
        (some_to_within (λ fs. value_depth new ≤ entries_depth fs) (λ (v : Value). ⊤)
        (λ es. record { body = body; nested = es }) (text_of (opening body)) (text_of (closing body))
        (in_entries (replacement new) (p ∷ []) 0 nested) (λ fs h. tt) (found_deep new p 0 nested g e))

-- what can have entries: an array or an inline table
abbrev is_bracketed : Body → Bool
is_bracketed body = is_array body || is_inline body

bracketed_of : (body : Body) (p : Part) → CanHold (Some (body_fact body)) p → is_bracketed body ≡ true
bracketed_of body (index n) h = rw (array_body body h) refl
bracketed_of body (key k) h = or_true (is_array body) (is_inline body) (inline_body body h)

around_deep : (new : Value) (body : Body) (fs : Entries) → is_bracketed body ≡ true
    → value_depth new ≤ entries_depth fs → suc (value_depth new) ≤ value_depth (record { body = body; nested = fs })
around_deep new (scalar w) fs is deep = absurd cc
around_deep new (array gap) fs is deep = omega (arith, deep)
around_deep new (inline gap) fs is deep = omega (arith, deep)

-- the value is deeper than the entry that is set in it
set_deep : (new : Value) (p : Part) (v : Value) (f : Fact) → is_bracketed v.body ≡ true
    → fact_at (p ∷ []) (mentions_of_value v) ≡ Some f
    → EachTo (λ u. suc (value_depth new) ≤ value_depth u) (set_at new p [] v)
set_deep new p v f is e =
    each_to_first (λ u. suc (value_depth new) ≤ value_depth u)
    (within (λ es. record v { nested = es }) (text_of (opening v.body)) (text_of (closing v.body))
    (in_entries (replacement new) (p ∷ []) 0 v.nested)) None (Some (same_value v))
    (some_to_within (λ fs. value_depth new ≤ entries_depth fs) (λ u. suc (value_depth new) ≤ value_depth u)
    (λ es. record v { nested = es }) (text_of (opening v.body)) (text_of (closing v.body))
    (in_entries (replacement new) (p ∷ []) 0 v.nested) (λ fs deep. around_deep new v.body fs is deep)
    (found_deep new p 0 v.nested f e))

-- ---- in the document

pub set_there : (profile : Profile) (limit : ℕ) (s : Document) (a : List Part) (value : Value) (c : TextChange)
    (fine : IsEditable profile limit s) (h : SetsValue profile limit s a value c) (p : Part) (new : Value)
    → has_value (a ++ p ∷ []) (mentions_in s) ≡ true
    → IsMadeThere (set_at new p) (its profile limit s a value c fine h) (there profile limit s a value c fine h).outer
    (edited_document s (set (a ++ p ∷ []) new))
set_there profile limit s a value c fine h p new valued =
    let (f, at, is) =
    fact_of_has a (mentions_in s) (settable profile limit a value (mentions_in s) h.allowed).valued in
    let (g, below, _) = fact_of_has (a ++ p ∷ []) (mentions_in s) valued in
    made_by profile limit s a value c fine h (set_at new p) (λ q qs v. refl)
    (can_ended any_body (in_value (replacement new)) (p ∷ [])) (set (a ++ p ∷ []) new)
    (λ x e. ap (λ (o : Option (Changed Document)). (changed_or_same s o).to)
    (gives_some (nested (set_at new p) a s) (nested (replacement new) (a ++ p ∷ []) s) x e
    (gives_set profile s a p new f g fine.valid (rules_of_document s fine.obeys) at is below)))

-- ---- in another document

module _ (profile : Profile) (limit : ℕ) (s : Document) (a : List Part) (value : Value) (c : TextChange)
    (now : Document) (b : List Part) (d : TextChange) (fine : IsEditable profile limit s)
    (fine_now : IsEditable profile limit now)
    (h : SetsValue profile limit s a value c) (k : SetsValue profile limit now b value d)
    (same : take d.size (drop d.at (text now)) ≡ take c.size (drop c.at (text s))) where
  abbrev was : Value
  was = its profile limit s a value c fine h

  module _ (p : Part) (new : Value) (holds : CanHold (fact_at a (mentions_in s)) p)
      (allowed : refusal profile limit s (set (a ++ p ∷ []) new) ≡ None)
      (sets : edited_document s (set (a ++ p ∷ []) new) ≡ edited_document s (set a value)) where
    abbrev path : List Part
    path = a ++ p ∷ []

    abbrev path_now : List Part
    path_now = b ++ p ∷ []

    valued : has_value path (mentions_in s) ≡ true
    valued = (settable profile limit path new (mentions_in s) allowed).valued

    valued_now : has_value path_now (mentions_in now) ≡ true
    valued_now = same_valued profile limit s a value c now b d fine fine_now h k same p ∙ valued

    before : IsMadeThere (set_at new p) was (there profile limit s a value c fine h).outer
        (edited_document s (set path new))
    before = set_there profile limit s a value c fine h p new valued

    pub set_same : edited_document now (set (b ++ p ∷ []) new) ≡ edited_document now (set b value)
    set_same =
        still_same profile limit s a value c now b d fine fine_now h k same (set_at new p) (set path new) before sets
        (set path_now new) (set_there profile limit now b value d fine_now k p new valued_now)

    fact_was : fact_at a (mentions_in s) ≡ Some (body_fact was.body)
    fact_was =
        ap (λ (q : List Part). fact_at q (mentions_in s)) (sym (append-nil a))
        ∙ facts profile limit s a value c fine h []

    deep : EachTo (λ u. suc (value_depth new) ≤ value_depth u) (set_at new p [] was)
    deep =
        let (g, at, is) = fact_of_has path (mentions_in s) valued in
        set_deep new p was g (bracketed_of was.body p (subst (λ (o : Option Fact). CanHold o p) fact_was holds))
        (sym (facts profile limit s a value c fine h (p ∷ [])) ∙ at)

    shallow : enclosing path_now (mentions_in now) + value_depth new ≤ limit
    shallow =
        ltb-false limit (enclosing path_now (mentions_in now) + value_depth new)
        (inserts.shallow profile limit s a value c now b d fine fine_now h k same p new
        (inserts.deeper profile limit s a value c now b d fine fine_now h k same (set_at new p) (set path new) new
        before sets deep))

    pub set_allowed : refusal profile limit now (set (b ++ p ∷ []) new) ≡ None
    set_allowed =
        unrefused profile limit path_now new (mentions_in now) (record {
          node = node_alone path_now (mentions_in now) (alone_of_has path_now (mentions_in now) valued_now);
          valued = valued_now;
          shallow = shallow;
          suits = (settable profile limit path new (mentions_in s) allowed).suits;
        })
