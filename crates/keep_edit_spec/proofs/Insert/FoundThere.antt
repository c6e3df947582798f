-- An act that puts something in, where it is done: at the value of the path's number, and nothing else is said at or
-- under the path.
--
-- The change is also that of `ended`, which acts at the end of the path alone (`ended_is`). So the value that
-- `found_nested` finds is at that very path (`by_more`). Where the act does nothing, `ended` puts the value's own text
-- in its place, so it takes that text out; but the act takes nothing out (`none_taken`), and a value has a text
-- (`never_empty`). So the act itself is done there (`acted`). By the rules nothing else is said at or under the path,
-- so that value has the number of the path (`number_of_value`), and the facts under the path are the facts in it.
-- `IsFoundThere` is all that together.
--
-- Theorems: `found_facts`: the facts at the path of a value and below it; `found_kinds`: what is said below it;
-- `found_there`: the act is done at that value; `put_place`: a change that takes nothing out puts its bytes in at one
-- place.
use Rattle.std.proofs.Common.{◌≡◌, ℕ, ◌+◌, Bool, true, false, List, [], ◌∷◌, ◌++◌, length, map, refl, sym, ap, subst}
use Rattle.std.proofs.Common.{◌∙◌, arith, Option, Some, None}
use Rattle.std.proofs.lemmas.List.{append-nil}
use Rattle.keep_types.specs.declared.leaf.Profile.{Profile}
use Rattle.keep_token.specs.Pieces.{first}
use Rattle.keep_syntax.specs.Tree.{Body, Value, Document, value_text}
use Rattle.keep_syntax.specs.Grammar.{IsValue, IsDocument}
use Rattle.keep_syntax.specs.Numbered as syntax
use Rattle.keep_syntax.proofs.Shared.{value_begins, value_first_solid, is_solid}
use Rattle.keep_path.specs.Path.{Part, same_path}
use Rattle.keep_meaning.specs.Marks.{Mention, below, item}
use Rattle.keep_meaning.specs.Meaning.{body_fact, valued_mentions, entries_mentions, mentions_in, mentions_of_value}
use Rattle.keep_meaning.specs.Counts.{is_value, numbered_in}
use Rattle.keep_meaning.specs.Nodes.{fact_at, first_of, kinds_at, numbered_at, last_number, value_number}
use Rattle.std.specs.List.{filter_map}
use Rattle.keep_meaning.specs.Marks.{fact_of}
use Rattle.keep_edit_spec.specs.Changed.{Changed, place_of, or_else}
use Rattle.keep_edit_spec.specs.Values.{Act, text_of_value}
use Rattle.keep_edit_spec.specs.Edits.{nested}
use Rattle.keep_edit_spec.specs.Insertion.{put_in}
use Rattle.keep_edit_spec.proofs.Common.Runs.{AllOf, Rules, pairs_split, Allowed, IsDisjoint, strip-append, fact_under}
use Rattle.keep_edit_spec.proofs.Common.Runs.{kinds_at-below, kinds_at-run}
use Rattle.keep_edit_spec.proofs.Common.SetLaw.{rules_below}
use Rattle.keep_edit_spec.proofs.Common.SetDocument.{valued_facts}
use Rattle.keep_edit_spec.proofs.Common.DoneAtValue.{EachOf}
use Rattle.keep_edit_spec.proofs.Common.ValueNumber.{number_of_value}
use Rattle.keep_edit_spec.proofs.Common.FoundValue.{IsFoundIn, Valid_document, found_nested}
use Rattle.keep_edit_spec.proofs.Remove.RemovePlace.{IsValueAt, value_at_split, same_place}
use Rattle.keep_edit_spec.proofs.Insert.DoneThere.{ended, same_value}

-- nothing is taken out
abbrev pub TakesNothing : Act → Type 0
TakesNothing act = (more : List Part) (v : Value) (d : Changed Value) → act more v ≡ Some d → d.old ≡ []

pub record IsFoundThere (profile : Profile) (fits : Body → Bool) (act : Act) (rest path : List Part) (s : Document)
    (c : Changed Document) : Type 0 where
  pub found : IsFoundIn (ended fits act rest) (Valid_document s) 0 path (mentions_in s) (syntax.values s) c
  pub place : found.mention.path ≡ path
  pub fit : fits found.value.body ≡ true
  pub by : act rest found.value ≡ Some found.done
  pub here : IsValueAt path s found.own
  pub number : last_number is_value value_number (numbered_at path (numbered_in s)) ≡ Some (length found.prefix)
  pub valid : IsValue profile found.value
  pub rules : Rules (entries_mentions 0 found.value.nested)
  pub whole : mentions_in s ≡ found.earlier
      ++ (map (below path) (valued_mentions found.mention.kind (entries_mentions 0 found.value.nested))
      ++ found.further)
  pub disjoint_before : AllOf (IsDisjoint path) found.earlier
  pub disjoint_after : AllOf (IsDisjoint path) found.further
  pub facts : (q : List Part) → fact_at (path ++ q) (mentions_in s) ≡ fact_at q (mentions_of_value found.value)
  pub nothing : found.done.old ≡ []

-- a value has a text
never_empty : (profile : Profile) (v : Value) → IsValue profile v → value_text v ≡ [] → ⊥
never_empty profile v valid e =
    let k : is_solid (first (value_text v ++ [])) ≡ true =
    value_first_solid (first (value_text v ++ [])) (value_begins profile v [] valid) in
    let n : is_solid (first ([] ++ [])) ≡ true = subst (λ (t : List ℕ). is_solid (first (t ++ [])) ≡ true) e k in
    absurd cc

-- the act itself was done, since nothing was taken out
record IsActed (fits : Body → Bool) (act : Act) (rest : List Part) (v : Value) (d : Changed Value) : Type 0 where
  fit : fits v.body ≡ true
  by : act rest v ≡ Some d

acted : (fits : Body → Bool) (act : Act) (rest : List Part) (v : Value) (d : Changed Value) → (text_of_value v ≡ [] → ⊥)
    → d.old ≡ [] → ended fits act rest [] v ≡ Some d → IsActed fits act rest v d
acted fits act rest v d some nothing e = by (fits v.body) refl (act rest v) refl e
  where
    same : same_value v ≡ d → ⊥
    same k = some (ap (λ (x : Changed Value). x.old) k ∙ nothing)

    by : (b : Bool) → fits v.body ≡ b → (o : Option (Changed Value)) → act rest v ≡ o
        → ◌≡◌ {A = Option (Changed Value)}
        (elim b [ true ↦ or_else o (Some (same_value v)) | false ↦ Some (same_value v) ]) (Some d)
        → IsActed fits act rest v d
    by true f (Some x) k w = let z : x ≡ d = cc in record { fit = f; by = k ∙ ap Some z }
    by true f None k w = absurd (same (let z : same_value v ≡ d = cc in z))
    by false f o k w = absurd (same (let z : same_value v ≡ d = cc in z))

-- ---- what is said of a value that was found at a path

module _ (act : Act) (path : List Part) (s : Document) (c : Changed Document)
    (h : IsFoundIn act (Valid_document s) 0 path (mentions_in s) (syntax.values s) c) (place : h.mention.path ≡ path)
  where
    abbrev its : List Mention
    its = valued_mentions h.mention.kind (entries_mentions 0 h.value.nested)

    found_whole : mentions_in s ≡ h.earlier ++ (map (below path) its ++ h.further)
    found_whole =
        let inner : List Mention = entries_mentions 0 h.value.nested in
        let top : h.mention ≡ below path (record { path = []; kind = h.mention.kind }) =
        ap (λ (q : List Part). record { path = q; kind = h.mention.kind }) (place ∙ sym (append-nil path)) in
        h.mentioned
        ∙ ap (λ (l : List Mention). h.earlier ++ h.mention ∷ l)
        (h.within_mentioned ∙ ap (λ (q : List Part). map (below q) inner ++ h.further) place)
        ∙ ap (λ (m : Mention). h.earlier ++ m ∷ (map (below path) inner ++ h.further)) top

    pub found_kinds : Rules (mentions_in s) → (p : Part) (ps : List Part)
        → kinds_at (path ++ p ∷ ps) (mentions_in s) ≡ kinds_at (p ∷ ps) (mentions_of_value h.value)
    found_kinds rules p ps =
        let disjoint = h.disjoint rules in
        ap (kinds_at (path ++ p ∷ ps)) found_whole
        ∙ kinds_at-run path (path ++ p ∷ ps) (p ∷ ps) h.earlier (map (below path) its) h.further
        (subst (λ (q : List Part). AllOf (IsDisjoint q) h.earlier) place disjoint.0)
        (subst (λ (q : List Part). AllOf (IsDisjoint q) h.further) place disjoint.1) (strip-append path (p ∷ ps))
        ∙ kinds_at-below path (p ∷ ps) its

    pub found_facts : Rules (mentions_in s) → (q : List Part)
        → fact_at (path ++ q) (mentions_in s) ≡ fact_at q (mentions_of_value h.value)
    found_facts rules q =
        let disjoint = h.disjoint rules in
        ap (fact_at (path ++ q)) found_whole
        ∙ fact_under path (path ++ q) q h.earlier (map (below path) its) h.further
        (subst (λ (p : List Part). AllOf (IsDisjoint p) h.earlier) place disjoint.0)
        (subst (λ (p : List Part). AllOf (IsDisjoint p) h.further) place disjoint.1) (strip-append path q)
        ∙ ap (λ l. first_of (filter_map fact_of l)) (kinds_at-below path q its)
        ∙ valued_facts h.mention.kind (item (body_fact h.value.body)) (entries_mentions 0 h.value.nested) q h.fact
        (same_path [] q) refl

-- ---- where nothing is taken out

module _ (profile : Profile) (fits : Body → Bool) (act : Act) (rest path : List Part) (s : Document)
    (valid : IsDocument profile s) (rules : Rules (mentions_in s)) (takes : TakesNothing act) (c : Changed Document)
    (is : nested act (path ++ rest) s ≡ Some c) (ended_is : nested (ended fits act rest) path s ≡ Some c) where
  abbrev only : Act
  only = ended fits act rest

  abbrev Found : Type 0
  Found = IsFoundIn only (Valid_document s) 0 path (mentions_in s) (syntax.values s) c

  found : Found
  found = subst (EachOf (IsFoundIn only (Valid_document s) 0 path (mentions_in s) (syntax.values s))) ended_is
      (found_nested only path s)

  none_taken : c.old ≡ []
  none_taken =
      let h : IsFoundIn act (Valid_document s) 0 (path ++ rest) (mentions_in s) (syntax.values s) c =
      subst (EachOf (IsFoundIn act (Valid_document s) 0 (path ++ rest) (mentions_in s) (syntax.values s))) is
      (found_nested act (path ++ rest) s) in
      h.old ∙ takes h.more h.value h.done h.by

  by_more : (h : Found) (more : List Part) → h.more ≡ more → IsFoundThere profile fits act rest path s c
  by_more h (p ∷ ps) e = let k : None ≡ Some h.done = ap (λ (q : List Part). only q h.value) (sym e) ∙ h.by in absurd cc
  by_more h [] e =
      let place : h.mention.path ≡ path =
      sym (append-nil h.mention.path) ∙ ap (λ (q : List Part). h.mention.path ++ q) (sym e) ∙ sym h.place in
      let nothing : h.done.old ≡ [] = sym h.old ∙ none_taken in
      let v : Value = h.value in
      let own_valid : IsValue profile v = h.valid profile valid in
      let a : IsActed fits act rest v h.done =
      acted fits act rest v h.done (never_empty profile v own_valid) nothing
      (ap (λ (q : List Part). only q v) (sym e) ∙ h.by) in
      let disjoint = h.disjoint rules in
      let before : AllOf (IsDisjoint path) h.earlier =
      subst (λ (q : List Part). AllOf (IsDisjoint q) h.earlier) place disjoint.0 in
      let after : AllOf (IsDisjoint path) h.further =
      subst (λ (q : List Part). AllOf (IsDisjoint q) h.further) place disjoint.1 in
      let own : List Mention = valued_mentions h.mention.kind (entries_mentions 0 v.nested) in
      let whole : mentions_in s ≡ h.earlier ++ (map (below path) own ++ h.further) =
      found_whole only path s c h place in
      let mine : Rules own =
      rules_below path own (pairs_split Allowed (map (below path) own) h.further
      (pairs_split Allowed h.earlier (map (below path) own ++ h.further) (subst Rules whole rules)).right).left in
      record {
        found = h;
        place = place;
        fit = a.fit;
        by = a.by;
        here = value_at_split path s h.earlier h.mention h.later h.prefix h.own h.after rules h.mentioned place h.tells
            h.here h.count;
        number = number_of_value path s h.earlier h.mention h.later rules h.mentioned place h.tells ∙ ap Some h.count;
        valid = own_valid;
        rules = mine.1;
        whole = whole;
        disjoint_before = before;
        disjoint_after = after;
        facts = found_facts only path s c h place rules;
        nothing = nothing;
      }

  pub found_there : IsFoundThere profile fits act rest path s c
  found_there = by_more found found.more refl

-- bytes are put in there
pub put_place : (c : Changed Document) (at : ℕ) (new : List ℕ) → c.old ≡ [] → length c.before ≡ at → c.new ≡ new
    → place_of c ≡ put_in at new
put_place c at new nothing start is =
    same_place (length c.before) at (length c.before + length c.old) at c.new new start
    (omega (arith, start, ap (λ (t : List ℕ). length t) nothing)) is
