-- The array that takes a new item: what the refusal tells of it, and that the item is put in there.
--
-- Where `insert` of an item is not refused, the number is at most the count, and the depth and the profile allow the
-- value (`granted`). The path is an array's with an index (`item_at`). What `done_there` asks for is shown of
-- `put_item`: it has a change (`some_of`), leaves the array valid (`valid_of`), and nothing deeper in the array is
-- found by an index alone, since a path of one step ends at its entry (`nothing_deeper`, by induction over the
-- entries). The laws of arrays apply to an array's body only, so each of these lemmas is a split by the body.
--
-- Theorems: `granted`: what no refusal means; `put_there`: the item is put into this array, with all that holds of the
-- change.
use Rattle.std.proofs.Common.{◌≡◌, ℕ, ◌+◌, ◌≤◌, Bool, true, false, not, cond, List, [], ◌∷◌, ◌++◌, map, refl, sym, ap}
use Rattle.std.proofs.Common.{◌∙◌, Option, Some, None, inl, inr}
use Rattle.std.specs.Prelude.{nat_lt}
use Rattle.std.proofs.lemmas.List.{append-nil}
use Rattle.std.proofs.lemmas.Bool.{ltb-false}
use Rattle.keep_types.specs.declared.leaf.Profile.{Profile}
use Rattle.keep_syntax.specs.Tree.{Name, named_leaves, opening, closing, comma_leaves, text_of, Body, scalar, array}
use Rattle.keep_syntax.specs.Tree.{inline, Entries, none, entry, Value, Document, value_depth}
use Rattle.keep_syntax.specs.Profiles.{is_allowed_in}
use Rattle.keep_syntax.specs.Grammar.{AreEntries, in_array, IsValue, IsDocument}
use Rattle.keep_meaning.specs.Fact as fact
use Rattle.keep_meaning.specs.Fact.{Fact, is_bracket}
use Rattle.keep_path.specs.Path.{Part, key, index}
use Rattle.keep_meaning.specs.Marks.{Mention, start}
use Rattle.keep_meaning.specs.Meaning.{further_value, step, body_fact, scalar_fact, lines, mentions_in}
use Rattle.keep_meaning.specs.Nodes.{fact_at}
use Rattle.keep_types.specs.declared.leaf.Leaf.{Leaf}
use Rattle.keep_types.specs.declared.leaf.Leaf.TheVariants as leaf
use Rattle.keep_edit_spec.specs.Changed.{Changed, within, or_else}
use Rattle.keep_edit_spec.specs.declared.fault.EditFault.TheVariants as fault
use Rattle.keep_edit_spec.specs.Look.{strip, enclosing, last_part, without_last, is_array_at, item_number, item_count}
use Rattle.keep_edit_spec.specs.Values.{Act, entry_prefix, entry_back, in_entries, put_item}
use Rattle.keep_edit_spec.specs.Edits.{insert, nested}
use Rattle.keep_edit_spec.specs.Refusals.{refusal, refusal_by, first_that_holds, is_too_deep}
use Rattle.keep_edit_spec.proofs.Common.Runs.{SomeOf, Rules, meet, exclusive, strip-sound}
use Rattle.keep_edit_spec.proofs.Common.SetLaw.{EachTo, IsAloneAt, no_entry}
use Rattle.keep_edit_spec.proofs.Common.LineLaws.{never_root}
use Rattle.keep_edit_spec.proofs.Common.ValueThere.{IsSome, alone_of_fact}
use Rattle.keep_edit_spec.proofs.Append.AppendElement.{IsHeld, lines_held}
use Rattle.keep_edit_spec.proofs.Insert.Gives.{IsNamedAt}
use Rattle.keep_edit_spec.proofs.Insert.DoneThere.{IsDoneThere, done_there}
use Rattle.keep_edit_spec.proofs.Insert.PutIn.{size}
use Rattle.keep_edit_spec.proofs.Insert.PutValue.{IsItemPut, item_put, some_item, valid_item, OneDeeper, item_depth}

-- ---- the array

abbrev pub is_array : Body → Bool
is_array (scalar w) = false
is_array (array first) = true
is_array (inline first) = false

pub array_body : (body : Body) → Some (body_fact body) ≡ Some fact.array → is_array body ≡ true
array_body (array first) e = refl
array_body (inline first) e = absurd cc
array_body (scalar w) e = absurd (by w.leaf w.text (let k : scalar_fact w.leaf w.text ≡ fact.array = cc in k))
  where
    array_test : Fact → Bool
    array_test fact.array = true
    array_test _ = false

    none_array : (l : Leaf) (t : List ℕ) → array_test (scalar_fact l t) ≡ false
    none_array leaf.Integer t = refl
    none_array _ t = refl

    by : (l : Leaf) (t : List ℕ) → scalar_fact l t ≡ fact.array → ⊥
    by l t e =
        let x : array_test (scalar_fact l t) ≡ true = ap array_test e in
        let y : array_test (scalar_fact l t) ≡ false = none_array l t in absurd cc

pub array_at : (path : List Part) (ms : List Mention) → is_array_at path ms ≡ true → fact_at path ms ≡ Some fact.array
array_at path ms h = by (fact_at path ms) h
  where
    by : (o : Option Fact)
        → elim o [
          | None ↦ false
          | Some f ↦
              elim f [
                | fact.string v ↦ false
                | fact.integer v ↦ false
                | fact.boolean v ↦ false
                | fact.float v ↦ false
                | fact.moment k v ↦ false
                | fact.array ↦ true
                | fact.inline ↦ false
                | fact.table ↦ false
              ]
        ] ≡ true
        → o ≡ Some fact.array
    by None h = absurd cc
    by (Some fact.array) h = refl
    by (Some (fact.string v)) h = absurd cc
    by (Some (fact.integer v)) h = absurd cc
    by (Some (fact.boolean v)) h = absurd cc
    by (Some (fact.float v)) h = absurd cc
    by (Some (fact.moment k v)) h = absurd cc
    by (Some fact.inline) h = absurd cc
    by (Some fact.table) h = absurd cc

-- a path into an array
pub record IsItemPath (path : List Part) (n : ℕ) (ms : List Mention) : Type 0 where
  pub whole : path ≡ without_last path ++ index n ∷ []
  pub is_array : fact_at (without_last path) ms ≡ Some fact.array

pub last_is : (path : List Part) (x : Part) → last_part path ≡ Some x → path ≡ without_last path ++ x ∷ []
last_is [] x e = absurd cc
last_is (p ∷ []) x e = let k : p ≡ x = cc in ap (λ (y : Part). y ∷ []) k
last_is (p ∷ q ∷ ps) x e = ap (λ (l : List Part). p ∷ l) (last_is (q ∷ ps) x e)

pub item_at : (path : List Part) (n : ℕ) (ms : List Mention) → item_number path ms ≡ Some n → IsItemPath path n ms
item_at path n ms h = by (last_part path) refl h
  where
    numbered : (m : ℕ) (b : Bool) → is_array_at (without_last path) ms ≡ b → last_part path ≡ Some (index m)
        → ◌≡◌ {A = Option ℕ} (cond b (Some m) None) (Some n) → IsItemPath path n ms
    numbered m false e k g = absurd cc
    numbered m true e k g =
        let same : m ≡ n = cc in
        record {
          whole = last_is path (index n) (k ∙ ap (λ (i : ℕ). Some (index i)) same);
          is_array = array_at (without_last path) ms e;
        }

    by : (o : Option Part) → last_part path ≡ o
        → ◌≡◌ {A =
        Option ℕ} (elim o [
          | None ↦ None
          | Some part ↦
              elim part [ key text ↦ None | index m ↦ cond (is_array_at (without_last path) ms) (Some m) None ]
        ]) (Some n) → IsItemPath path n ms
    by None e g = absurd cc
    by (Some (key text)) e g = absurd cc
    by (Some (index m)) e g = numbered m (is_array_at (without_last path) ms) refl e g

-- no value is the root
pub never_whole : (s : Document) → SomeOf (IsAloneAt []) (mentions_in s) → ⊥
never_whole s alone =
    let (m, here, held) =
    meet (IsAloneAt []) (λ x. exclusive x.kind ≡ true → IsHeld (mentions_in s) x) (mentions_in s) alone
    (lines_held start (lines s)) in
    let h = held here.kind in
    never_root h.prefix h.ends (h.under.0, ap (strip h.prefix) (sym here.path) ∙ h.under.1)

-- ---- what the refusal tells

pub record IsGranted (profile : Profile) (limit : ℕ) (s : Document) (path : List Part) (n : ℕ) (new : Value) : Type
    0 where
  pub few : n ≤ item_count (without_last path) (mentions_in s)
  pub shallow : enclosing path (mentions_in s) + value_depth new ≤ limit
  pub suits : is_allowed_in profile new ≡ true

pub granted : (profile : Profile) (limit : ℕ) (s : Document) (path : List Part) (n : ℕ) (new : Value)
    → item_number path (mentions_in s) ≡ Some n → refusal profile limit s (insert path new) ≡ None
    → IsGranted profile limit s path n new
granted profile limit s path n new at h =
    by (nat_lt (item_count (without_last path) (mentions_in s)) n) (is_too_deep limit path new (mentions_in s))
    (is_allowed_in profile new) refl refl refl (rw (at, refusal_by) at h)
  where
    by : (a b d : Bool) → nat_lt (item_count (without_last path) (mentions_in s)) n ≡ a
        → is_too_deep limit path new (mentions_in s) ≡ b → is_allowed_in profile new ≡ d
        → first_that_holds ((a, fault.NotFound) ∷ (b, fault.TooDeep) ∷ (not d, fault.Profile) ∷ []) ≡ None
        → IsGranted profile limit s path n new
    by true b d ea eb ed g = absurd cc
    by false true d ea eb ed g = absurd cc
    by false false false ea eb ed g = absurd cc
    by false false true ea eb ed g = record {
      few = ltb-false (item_count (without_last path) (mentions_in s)) n ea;
      shallow = ltb-false limit (enclosing path (mentions_in s) + value_depth new) eb;
      suits = ed;
    }

-- ---- nothing deeper is done

rest_none : (ks : List (List ℕ)) (more : List Part) → map key ks ++ more ≡ [] → more ≡ []
rest_none [] more e = e
rest_none (k ∷ ks) more e = absurd cc

one_step : (p : Part) (n : ℕ) (name : Option Name) (more : List Part) → p ∷ [] ≡ step n name ++ more → more ≡ []
one_step p n None more e = let k : [] ≡ more = cc in sym k
one_step p n (Some name) more e =
    rest_none (map further_value name.key.more) more
    (let k : [] ≡ map key (map further_value name.key.more) ++ more = cc in sym k)

nothing_deeper : (act : Act) → ((v : Value) → act [] v ≡ None) → (p : Part) (n : ℕ) (es : Entries)
    → in_entries act (p ∷ []) n es ≡ None
nothing_deeper act never p n none = refl
nothing_deeper act never p n (entry name body nested after comma rest) =
    by (strip (step n name) (p ∷ [])) refl (nothing_deeper act never p (n + 1) rest)
  where
    at_end : (more : List Part) → more ≡ []
        → or_else (within (λ es. record { body = body; nested = es }) (text_of (opening body)) (text_of (closing body))
        (in_entries act more 0 nested)) (act more (record { body = body; nested = nested })) ≡ None
    at_end [] e =
        ap (λ (o : Option (Changed Entries)).
        or_else (within (λ es. record { body = body; nested = es }) (text_of (opening body)) (text_of (closing body)) o)
        (act [] (record { body = body; nested = nested }))) (no_entry act 0 nested)
        ∙ never (record { body = body; nested = nested })
    at_end (q ∷ qs) e = absurd cc

    by : (o : Option (List Part)) → strip (step n name) (p ∷ []) ≡ o → in_entries act (p ∷ []) (n + 1) rest ≡ None
        → ◌≡◌ {A = Option (Changed Entries)} (elim o [
          | None ↦
              within (entry name body nested after comma)
              (entry_prefix name body nested ++ (text_of after ++ text_of (comma_leaves comma))) []
              (in_entries act (p ∷ []) (n + 1) rest)
          | Some more ↦
              within (λ v. entry name v.body v.nested after comma rest) (text_of (named_leaves name))
              (entry_back after comma rest)
              (or_else (within (λ es. record { body = body; nested = es }) (text_of (opening body))
              (text_of (closing body))
              (in_entries act more 0 nested)) (act more (record { body = body; nested = nested })))
        ]) None
    by None e further =
        ap (within (entry name body nested after comma)
        (entry_prefix name body nested ++ (text_of after ++ text_of (comma_leaves comma))) []) further
    by (Some more) e further =
        ap (within (λ v. entry name v.body v.nested after comma rest) (text_of (named_leaves name))
        (entry_back after comma rest))
        (at_end more (one_step p n name more (strip-sound (step n name) (p ∷ []) more e)))

-- ---- the change

pub put_of : (new : Value) (n : ℕ) (body : Body) (nested : Entries) → is_array body ≡ true → n ≤ size nested
    → EachTo (IsItemPut new n (record { body = body; nested = nested }))
    (put_item new (index n ∷ []) (record { body = body; nested = nested }))
put_of new n (array first) nested e few = item_put new n first nested few
put_of new n (scalar w) nested e few = absurd cc
put_of new n (inline first) nested e few = absurd cc

some_of : (new : Value) (n : ℕ) (body : Body) (nested : Entries) → is_array body ≡ true
    → IsSome (put_item new (index n ∷ []) (record { body = body; nested = nested }))
some_of new n (array first) nested e = some_item new n first nested
some_of new n (scalar w) nested e = absurd cc
some_of new n (inline first) nested e = absurd cc

valid_of : (profile : Profile) (new : Value) (n : ℕ) (body : Body) (nested : Entries) → is_array body ≡ true
    → IsValue profile new → IsValue profile (record { body = body; nested = nested })
    → EachTo (IsValue profile) (put_item new (index n ∷ []) (record { body = body; nested = nested }))
valid_of profile new n (array first) nested e given valid = valid_item profile new n first nested given valid
valid_of profile new n (scalar w) nested e given valid = absurd cc
valid_of profile new n (inline first) nested e given valid = absurd cc

pub deep_of : (new : Value) (n : ℕ) (body : Body) (nested : Entries) → is_array body ≡ true
    → EachTo (OneDeeper new (record { body = body; nested = nested }))
    (put_item new (index n ∷ []) (record { body = body; nested = nested }))
deep_of new n (array first) nested e = item_depth new n first nested
deep_of new n (scalar w) nested e = absurd cc
deep_of new n (inline first) nested e = absurd cc

pub entries_of : (profile : Profile) (body : Body) (nested : Entries) → is_array body ≡ true
    → IsValue profile (record { body = body; nested = nested }) → AreEntries profile in_array nested
entries_of profile (array first) nested e valid = valid.nested
entries_of profile (scalar w) nested e valid = absurd cc
entries_of profile (inline first) nested e valid = absurd cc

pub bracket_of : (body : Body) → is_array body ≡ true → is_bracket (body_fact body) ≡ true
bracket_of (array first) e = refl
bracket_of (scalar w) e = absurd cc
bracket_of (inline first) e = absurd cc

some_named : (p : List Part) (ms : List Mention) → SomeOf (IsAloneAt p) ms → SomeOf (IsNamedAt (p ++ [])) ms
some_named p [] s = absurd s
some_named p (m ∷ ms) (inl a) = inl (a.path ∙ sym (append-nil p))
some_named p (m ∷ ms) (inr s) = inr (some_named p ms s)

pub put_there : (profile : Profile) (s : Document) (a : List Part) (new : Value) (n : ℕ) → IsDocument profile s
    → Rules (mentions_in s) → IsValue profile new → fact_at a (mentions_in s) ≡ Some fact.array
    → IsDoneThere profile is_array (put_item new) (index n ∷ []) a s
put_there profile s a new n valid rules given at =
    done_there profile is_array (put_item new) (index n ∷ []) a [] s fact.array valid rules at refl
    (some_named a (mentions_in s) (alone_of_fact a (mentions_in s) fact.array at refl))
    (λ v e h. valid_of profile new n v.body v.nested e given h)
    (λ body nested h r k.
    let fit : is_array body ≡ true =
    array_body body (k.facts [] ∙ ap (λ (x : List Part). fact_at x (mentions_in s)) (append-nil a) ∙ at) in
    record {
      fit = fit;
      shallow = nothing_deeper (put_item new) (λ v. refl) (index n) 0 nested;
      some = some_of new n body nested fit;
    })
