-- An act that is done at the value of a path with more parts after it: there is a change, and all that holds of it.
--
-- The act may also act deeper than the value that is meant. So it is replaced by `ended`: an act that acts at the end
-- of the path alone, and changes nothing where the value does not fit. Of this one the general laws hold: it has a
-- change (`can_ended`), the document stays valid (`valid_ended`), and one value's mentions are replaced (`does_ended`).
-- If the act fits the value, does nothing deeper in it and makes a change there (`IsApt`), both give the same change
-- (`given`). All that is known of it is collected in one record, for the laws of `insert`.
--
-- Theorem: `done_there`.
use Rattle.std.proofs.Common.{◌≡◌, ℕ, ◌+◌, ◌≤◌, Bool, true, false, List, [], ◌∷◌, ◌++◌, map, refl, sym, ap, subst, ◌∙◌}
use Rattle.std.proofs.Common.{arith, Option, Some, None, inl, inr}
use Rattle.std.specs.Prelude.{max}
use Rattle.std.proofs.lemmas.List.{append-nil}
use Rattle.keep_types.specs.declared.leaf.Profile.{Profile}
use Rattle.keep_syntax.specs.Tree.{opening, closing, bom_leaves, Body, Entries, Value, Document, text_of, value_depth}
use Rattle.keep_syntax.specs.Tree.{depth}
use Rattle.keep_syntax.specs.Grammar.{IsValue, IsDocument}
use Rattle.keep_meaning.specs.Fact.{Fact, is_value_fact}
use Rattle.keep_path.specs.Path.{Part, same_path}
use Rattle.keep_meaning.specs.Marks.{MentionKind, item, Mention, below, fact_of, start}
use Rattle.keep_meaning.specs.Meaning.{body_fact, entries_mentions, mentions_in, mentions_of_value}
use Rattle.keep_meaning.specs.Nodes.{fact_at}
use Rattle.keep_edit_spec.specs.Look.{strip, enclosing}
use Rattle.keep_edit_spec.specs.Changed.{Changed, within, or_else}
use Rattle.keep_edit_spec.specs.Values.{Act, in_entries, text_of_value}
use Rattle.keep_edit_spec.specs.Lines.{in_line, in_lines, with_page}
use Rattle.keep_edit_spec.specs.Edits.{nested}
use Rattle.keep_edit_spec.proofs.Common.Runs.{AllOf, SomeOf, Rules, IsDisjoint, exclusive, strip-append}
use Rattle.keep_edit_spec.proofs.Common.SetLaw.{EachTo, to_within}
use Rattle.keep_edit_spec.proofs.Common.SetValid.{IsActValid, IsPage, valid_lines, valid_line}
use Rattle.keep_edit_spec.proofs.Common.SetDocument.{valued_facts, rules_outside}
use Rattle.keep_edit_spec.proofs.Common.ValueThere.{IsSome, the_some, some_cases, some_nested, CanBeDone, alone_of_fact}
use Rattle.keep_edit_spec.proofs.Common.DoneAtValue as at_value
use Rattle.keep_edit_spec.proofs.Common.DoneAtValue.{EachOf}
use Rattle.keep_edit_spec.proofs.Common.DoneInDocument.{done_nested}
use Rattle.keep_edit_spec.proofs.Common.InValue.{Does, IsDone, IsDoneAt, tagged, done_document, there_before, there_now}
use Rattle.keep_edit_spec.proofs.Common.InValue.{elsewhere_done, rules_there, rules_done}
use Rattle.keep_edit_spec.proofs.Insert.Gives.{Gives, IsNamedAt, Holds, named_beyond, never_named}
use Rattle.keep_edit_spec.proofs.Insert.GivesLines.{gives_nested}

-- ---- the act at the end of the path alone: what it does where it fits, and no change elsewhere

abbrev pub same_value : Value → Changed Value
same_value v = record { to = v; before = []; old = text_of_value v; new = text_of_value v; after = [] }

abbrev pub ended : (Body → Bool) → Act → List Part → Act
ended fits act rest [] v =
    elim (fits v.body) [ true ↦ or_else (act rest v) (Some (same_value v)) | false ↦ Some (same_value v) ]
ended fits act rest (p ∷ ps) v = None

pub can_ended : (fits : Body → Bool) (act : Act) (rest : List Part) → CanBeDone (ended fits act rest)
can_ended fits act rest v = by (fits v.body) (act rest v)
  where
    by : (b : Bool) (o : Option (Changed Value))
        → IsSome {A = Changed Value} (elim b [ true ↦ or_else o (Some (same_value v)) | false ↦ Some (same_value v) ])
    by true None = tt
    by true (Some c) = tt
    by false o = tt

valid_ended : (profile : Profile) (fits : Body → Bool) (act : Act) (rest : List Part)
    → ((v : Value) → fits v.body ≡ true → IsValue profile v → EachTo (IsValue profile) (act rest v))
    → IsActValid profile (ended fits act rest)
valid_ended profile fits act rest good (p ∷ ps) v h = tt
valid_ended profile fits act rest good [] v h = by (fits v.body) refl (act rest v) (λ e. good v e h)
  where
    by : (b : Bool) → fits v.body ≡ b → (o : Option (Changed Value)) → (fits v.body ≡ true → EachTo (IsValue profile) o)
        → EachTo (IsValue profile) (elim b [ true ↦ or_else o (Some (same_value v)) | false ↦ Some (same_value v) ])
    by true e None g = h
    by true e (Some c) g = g e
    by false e o g = h

record IsEnded (profile : Profile) (fits : Body → Bool) (act : Act) (rest more : List Part) (old now : Value) : Type
    0 where
  root : more ≡ []
  valid : IsValue profile old
  change : Changed Value
  by : ended fits act rest [] old ≡ Some change
  to : now ≡ change.to

does_ended : (profile : Profile) (fits : Body → Bool) (act : Act) (rest : List Part)
    → Does profile (IsEnded profile fits act rest) (ended fits act rest)
does_ended profile fits act rest (p ∷ ps) v h = tt
does_ended profile fits act rest [] v h = by (ended fits act rest [] v) refl
  where
    by : (o : Option (Changed Value)) → ended fits act rest [] v ≡ o → EachTo (IsEnded profile fits act rest [] v) o
    by None e = tt
    by (Some c) e = record { root = refl; valid = h; change = c; by = e; to = refl }

-- ---- what it meets

-- the act fits the value, does nothing deeper in it, and makes a change there
pub record IsApt (fits : Body → Bool) (act : Act) (rest : List Part) (body : Body) (nested : Entries) : Type 0 where
  pub fit : fits body ≡ true
  pub shallow : in_entries act rest 0 nested ≡ None
  pub some : IsSome (act rest (record { body = body; nested = nested }))

pub apt_gives : (b : Bool) (o : Option (Changed Value)) (i : Option (Changed Entries)) (v : Value)
    (outer : Entries → Value) (left right : List ℕ) → b ≡ true → i ≡ None → IsSome o
    → Gives {A = Value} (elim b [ true ↦ or_else o (Some (same_value v)) | false ↦ Some (same_value v) ])
    (or_else (within outer left right i) o)
apt_gives true (Some c) None v outer left right e k s = refl
apt_gives true None i v outer left right e k s = absurd s
apt_gives true (Some c) (Some d) v outer left right e k s = absurd cc
apt_gives false o i v outer left right e k s = absurd cc

apt_change : (b : Bool) (o : Option (Changed Value)) (v : Value) (c : Changed Value) → b ≡ true → IsSome o
    → ◌≡◌ {A = Option (Changed Value)} (elim b [ true ↦ or_else o (Some (same_value v)) | false ↦ Some (same_value v) ])
    (Some c) → o ≡ Some c
apt_change true (Some d) v c e s k = k
apt_change true None v c e s k = absurd s
apt_change false o v c e s k = absurd cc

-- All that holds of the change.
pub record IsDoneThere (profile : Profile) (fits : Body → Bool) (act : Act) (rest path : List Part)
    (s : Document) : Type 0 where
  pub changed : Changed Document
  pub is : nested act (path ++ rest) s ≡ Some changed
  pub ended_is : nested (ended fits act rest) path s ≡ Some changed
  pub valid : IsDocument profile changed.to
  pub old : Value
  pub old_valid : IsValue profile old
  pub holds : (q : List Part) → fact_at (path ++ q) (mentions_in s) ≡ fact_at q (mentions_of_value old)
  pub names : (x : List Part) → SomeOf (IsNamedAt (path ++ x)) (mentions_in s)
      → SomeOf (IsNamedAt x) (mentions_of_value old)
  pub done : Changed Value
  pub by : act rest old ≡ Some done
  pub fit : fits old.body ≡ true
  pub tag : Fact → MentionKind
  pub stated : (f : Fact) → fact_of (tag f) ≡ Some f
  pub alone : (f : Fact) → exclusive (tag f) ≡ true
  pub rules : Rules (tagged tag old)
  pub before : List Mention
  pub after : List Mention
  pub was : mentions_in s ≡ before ++ (map (below path) (tagged tag old) ++ after)
  pub now : mentions_in changed.to ≡ before ++ (map (below path) (tagged tag done.to) ++ after)
  pub disjoint_before : AllOf (IsDisjoint path) before
  pub disjoint_after : AllOf (IsDisjoint path) after
  pub rules_now : Rules (tagged tag done.to) → Rules (mentions_in changed.to)
  pub holds_now : (q : List Part) → fact_at (path ++ q) (mentions_in changed.to) ≡ fact_at q (mentions_of_value done.to)
  pub elsewhere : (q : List Part) → strip path q ≡ None → fact_at q (mentions_in changed.to) ≡ fact_at q (mentions_in s)
  pub low : (k : ℕ)
      → ((v : Value) → fits v.body ≡ true → EachTo (λ w. value_depth w ≤ max (value_depth v) k) (act rest v))
      → depth changed.to ≤ max (depth s) (enclosing path (mentions_in s) + k)

at_some : {A : Type 0} (P : A → Type 0) (o : Option (Changed A)) (c : Changed A) → o ≡ Some c → EachTo P o → P c.to
at_some P o c e h = subst (EachTo P) e h

of_some : {A : Type 0} (P : Changed A → Type 0) (o : Option (Changed A)) (c : Changed A) → o ≡ Some c → EachOf P o → P c
of_some P o c e h = subst (EachOf P) e h

pub gives_some : {A : Type 0} (o p : Option (Changed A)) (c : Changed A) → o ≡ Some c → Gives o p → p ≡ Some c
gives_some {A = A} o p c e h = subst (λ (x : Option (Changed A)). Gives x p) e h

module _ (profile : Profile) (fits : Body → Bool) (act : Act) (rest path dots : List Part) (s : Document) (f : Fact)
    (valid : IsDocument profile s) (rules : Rules (mentions_in s))
    (here : fact_at path (mentions_in s) ≡ Some f) (valued : is_value_fact f ≡ true)
    (named : SomeOf (IsNamedAt (path ++ dots)) (mentions_in s))
    (good : (v : Value) → fits v.body ≡ true → IsValue profile v → EachTo (IsValue profile) (act rest v))
    (apt : (body : Body) (nested : Entries) → IsValue profile (record { body = body; nested = nested })
    → Rules (entries_mentions 0 nested)
    → Holds (λ q. fact_at (path ++ q) (mentions_in s)) dots []
    (mentions_of_value (record { body = body; nested = nested })) → IsApt fits act rest body nested) where
  abbrev only : Act
  only = ended fits act rest

  abbrev D : List Part → Value → Value → Type 0
  D = IsEnded profile fits act rest

  abbrev F : List Part → Option Fact
  F q = fact_at (path ++ q) (mentions_in s)

  there : F [] ≡ Some f
  there = ap (λ (x : List Part). fact_at x (mentions_in s)) (append-nil path) ∙ here

  given : (c : Changed Document) → nested only path s ≡ Some c → nested act (path ++ rest) s ≡ Some c
  given c e =
      gives_some (nested only path s) (nested act (path ++ rest) s) c e
      (gives_nested profile only act (λ p ps v. refl) rest F dots f there valued
      (λ body nested v r h. let a = apt body nested v r h in
      apt_gives (fits body) (act rest (record { body = body; nested = nested })) (in_entries act rest 0 nested)
      (record { body = body; nested = nested }) (λ es. record { body = body; nested = es })
      (text_of (opening body)) (text_of (closing body)) a.fit a.shallow a.some)
      path s valid rules (record { facts = λ q. refl; named = named }))

  module _ (c : Changed Document) (e : nested only path s ≡ Some c) where
    valid_there : IsDocument profile c.to
    valid_there =
        at_some (IsDocument profile) (nested only path s) c e
        (to_within (IsPage profile) (IsDocument profile) (with_page s) (text_of (bom_leaves s.bom)) []
        (in_lines (in_line only path) start s.ended s.last)
        (λ p k. record { ended = k.ended; last = k.last })
        (valid_lines profile (in_line only path)
        (λ r l. valid_line profile only (valid_ended profile fits act rest good) path r l) start s.ended s.last
        valid.ended valid.last))

    done_here : IsDone (IsEnded profile fits act rest) path (mentions_in s) (mentions_in c.to)
    done_here =
        at_some (λ s'. IsDone (IsEnded profile fits act rest) path (mentions_in s) (mentions_in s'))
        (nested only path s) c e
        (done_document profile (IsEnded profile fits act rest) only (does_ended profile fits act rest) s path valid
        rules)

    low_there : (k : ℕ)
        → ((v : Value) → fits v.body ≡ true → EachTo (λ w. value_depth w ≤ max (value_depth v) k) (act rest v))
        → depth c.to ≤ max (depth s) (enclosing path (mentions_in s) + k)
    low_there k deep =
        let d = of_some (at_value.IsDoneAt only path (mentions_in s) depth s) (nested only path s) c e
        (done_nested only (λ p ps v. refl) path s rules) in
        d.bounded k (by d.value d.done (fits d.value.body) refl (act rest d.value) (λ g. deep d.value g) d.by)
      where
        by : (v : Value) (d : Changed Value) (b : Bool) → fits v.body ≡ b → (o : Option (Changed Value))
            → (fits v.body ≡ true → EachTo (λ w. value_depth w ≤ max (value_depth v) k) o)
            → ◌≡◌ {A = Option (Changed Value)}
            (elim b [ true ↦ or_else o (Some (same_value v)) | false ↦ Some (same_value v) ]) (Some d)
            → value_depth d.to ≤ max (value_depth v) k
        by v d true g None h w =
            let x : same_value v ≡ d = cc in omega (arith, ap (λ (y : Changed Value). value_depth y.to) x)
        by v d true g (Some y) h w =
            let x : y ≡ d = cc in omega (arith, ap (λ (z : Changed Value). value_depth z.to) x, h g)
        by v d false g o h w =
            let x : same_value v ≡ d = cc in omega (arith, ap (λ (y : Changed Value). value_depth y.to) x)

    -- seen at the path itself
    at_path : IsDoneAt D path path (mentions_in s) (mentions_in c.to)
    at_path =
        let d = done_here in
        subst (λ (x : List Part). IsDoneAt (IsEnded profile fits act rest) x path (mentions_in s) (mentions_in c.to))
        (sym (d.at.whole ∙ ap (λ (x : List Part). d.prefix ++ x) d.at.done.root ∙ append-nil d.prefix)) d.at

    done_by : IsDoneAt D path path (mentions_in s) (mentions_in c.to) → IsDoneThere profile fits act rest path s
    done_by h =
        let v : Value = h.old in
        let facts : (q : List Part) → fact_at (path ++ q) (mentions_in s) ≡ fact_at q (mentions_of_value v) =
        λ q. there_before D path path (mentions_in s) (mentions_in c.to) h (path ++ q) q (strip-append path q)
        ∙ valued_facts (h.tag (body_fact v.body)) (item (body_fact v.body)) (entries_mentions 0 v.nested) q
        (h.stated (body_fact v.body)) (same_path [] q) refl in
        let names : (x : List Part) → SomeOf (IsNamedAt (path ++ x)) (mentions_in s)
        → SomeOf (IsNamedAt x) (mentions_of_value v) = λ x all.
        elim (some_cases (IsNamedAt (path ++ x)) h.before (map (below path) (tagged h.tag v) ++ h.after)
        (subst (SomeOf (IsNamedAt (path ++ x))) h.was all)) [
          | inl y ↦ absurd (never_named path x h.before h.disjoint_before y)
          | inr y ↦ (elim (some_cases (IsNamedAt (path ++ x)) (map (below path) (tagged h.tag v)) h.after y) [
            | inl z ↦ (elim (named_beyond path x (tagged h.tag v) z) [ inl e ↦ inl e | inr deep ↦ inr deep ])
            | inr z ↦ absurd (never_named path x h.after h.disjoint_after z)
          ])
        ] in
        let there_rules : Rules (tagged h.tag v) = rules_there D path path (mentions_in s) (mentions_in c.to) h rules in
        let a : IsApt fits act rest v.body v.nested =
        apt v.body v.nested h.done.valid there_rules.1
        (record { facts = λ q. sym (facts q); named = names dots named }) in
        let by : act rest v ≡ Some h.done.change =
        apt_change (fits v.body) (act rest v) v h.done.change a.fit a.some h.done.by in
        record {
          changed = c;
          is = given c e;
          ended_is = e;
          valid = valid_there;
          old = v;
          old_valid = h.done.valid;
          holds = facts;
          names = names;
          done = h.done.change;
          by = by;
          fit = a.fit;
          tag = h.tag;
          stated = h.stated;
          alone = h.alone;
          rules = there_rules;
          before = h.before;
          after = h.after;
          was = h.was;
          now = h.is ∙ ap (λ (w : Value). h.before ++ (map (below path) (tagged h.tag w) ++ h.after)) h.done.to;
          disjoint_before = h.disjoint_before;
          disjoint_after = h.disjoint_after;
          rules_now =
              λ r. rules_done D path path (mentions_in s) (mentions_in c.to) h rules
              (rules_outside path (tagged h.tag h.now)
              (subst (λ (w : Value). Rules (tagged h.tag w)) (sym h.done.to) r));
          holds_now =
              λ q. there_now D path path (mentions_in s) (mentions_in c.to) h (path ++ q) q (strip-append path q)
              ∙ ap (λ (w : Value). fact_at q (tagged h.tag w)) h.done.to
              ∙ valued_facts (h.tag (body_fact h.done.change.to.body)) (item (body_fact h.done.change.to.body))
              (entries_mentions 0 h.done.change.to.nested) q (h.stated (body_fact h.done.change.to.body))
              (same_path [] q) refl;
          elsewhere = elsewhere_done D path path (mentions_in s) (mentions_in c.to) h;
          low = low_there;
        }

  pub done_there : IsDoneThere profile fits act rest path s
  done_there =
      let (c, e) =
      the_some (nested only path s) (some_nested only (can_ended fits act rest) path s rules
      (alone_of_fact path (mentions_in s) f here valued)) in
      done_by c e (at_path c e)
