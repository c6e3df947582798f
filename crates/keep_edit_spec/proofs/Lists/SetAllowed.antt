-- A set that is not refused is not refused where the facts at its path and at the prefixes of it are as before.
--
-- As many arrays and inline tables enclose it as before, and it has a value as before, which makes it a node
-- (`node_alone`). That is all that a refusal asks of the document (`unrefused`, the converse of `settable`). So it is
-- after another set, if the path does not begin with the path of that one: by the law of set the new document has the
-- facts of the old one at each path that does not begin with the one that was set (`fact_stays`). The other path does
-- not, so none of its prefixes does (`prefix_clear`).
--
-- Theorems: `prefix_clear`; `unrefused`; `set_kept`, `facts_kept`: where what a set asks, or where the facts stay;
-- `fact_stays`: a fact that a set leaves; `set_allowed`: after another set.
use Rattle.std.proofs.Common.{◌≡◌, ℕ, ◌+◌, Bool, true, false, not, List, [], ◌∷◌, ◌++◌, refl, sym, ap, subst, ◌∙◌}
use Rattle.std.proofs.Common.{append_assoc, arith, Option, Some, None, inl, inr}
use Rattle.std.specs.List.{list_any}
use Rattle.std.proofs.lemmas.Bool.{le-ltb}
use Rattle.std.proofs.lemmas.List.{append-nil}
use Rattle.keep_types.specs.declared.leaf.Profile.{Profile}
use Rattle.keep_syntax.specs.Tree.{Value, Document, value_depth}
use Rattle.keep_syntax.specs.Profiles.{is_allowed_in}
use Rattle.keep_path.specs.Path.{Part, same_path, strip}
use Rattle.keep_meaning.specs.Fact.{Fact, is_value_fact}
use Rattle.keep_meaning.specs.Marks.{Mention}
use Rattle.keep_meaning.specs.Meaning.{mentions_in, mentions_of_value}
use Rattle.keep_meaning.specs.Nodes.{fact_at, is_at, is_node, is_root}
use Rattle.keep_edit_spec.specs.declared.fault.EditFault.TheVariants as fault
use Rattle.keep_edit_spec.specs.Edits.{edited_document, set}
use Rattle.keep_edit_spec.specs.Laws.{IsEditable, IsLawfulEdit}
use Rattle.keep_edit_spec.specs.Look.{enclosing, is_bracket_at}
use Rattle.keep_edit_spec.specs.Refusals.{first_that_holds, has_value, is_too_deep, refusal, refusal_by}
use Rattle.keep_edit_spec.specs.SetValues.{SetsValue}
use Rattle.keep_edit_spec.specs.TextChanges.{TextChange}
use Rattle.keep_edit_spec.specs.Trees.{fact_from, from, source}
use Rattle.keep_edit_spec.proofs.EditLaws.{set_lawful}
use Rattle.keep_edit_spec.proofs.Common.EntryDepths.{bracket_of, count_same}
use Rattle.keep_edit_spec.proofs.Common.InsertLaw.{or_true}
use Rattle.keep_edit_spec.proofs.Common.Runs.{SomeOf, none_or_some, same_path-refl, strip-append, strip-sound}
use Rattle.keep_edit_spec.proofs.Common.SetLaw.{IsAloneAt}
use Rattle.keep_edit_spec.proofs.Common.ValueThere.{alone_of_has}
use Rattle.keep_edit_spec.proofs.Set.SetIsLawful.{IsSettable, settable}

-- ---- what is not refused

pub unrefused : (profile : Profile) (limit : ℕ) (path : List Part) (new : Value) (ms : List Mention)
    → IsSettable profile limit path new ms → refusal_by profile limit ms (set path new) ≡ None
unrefused profile limit path new ms h =
    by (is_node path ms) (has_value path ms) (is_too_deep limit path new ms) (is_allowed_in profile new) h.node h.valued
    (le-ltb limit (enclosing path ms + value_depth new) h.shallow) h.suits
  where
    by : (a b c d : Bool) → a ≡ true → b ≡ true → c ≡ false → d ≡ true
        → first_that_holds ((not a, fault.NotFound) ∷ (not b, fault.NotValue) ∷ (c, fault.TooDeep)
        ∷ (not d, fault.Profile) ∷ []) ≡ None
    by a b c d e f g h = rw (e, f, g, h) refl

-- ---- a path with a value is a node

some_there : (path : List Part) (ms : List Mention) → SomeOf (IsAloneAt path) ms → list_any (is_at path) ms ≡ true
some_there path [] h = absurd h
some_there path (m ∷ ms) (inl h) =
    let here : same_path m.path path ≡ true =
    subst (λ (q : List Part). same_path m.path q ≡ true) h.path (same_path-refl m.path) in
    rw here refl
some_there path (m ∷ ms) (inr h) = or_true (is_at path m) (list_any (is_at path) ms) (some_there path ms h)

pub node_alone : (path : List Part) (ms : List Mention) → SomeOf (IsAloneAt path) ms → is_node path ms ≡ true
node_alone path ms h = or_true (is_root path) (list_any (is_at path) ms) (some_there path ms h)

-- ---- what is no prefix of a path is none of a prefix of it

pub prefix_clear : (path other q rest : List Part) → strip path other ≡ None → other ≡ q ++ rest → strip path q ≡ None
prefix_clear path other q rest clear is = elim (none_or_some (strip path q)) [
  | inl e ↦ e
  | inr r ↦
      let whole : other ≡ path ++ (r.0 ++ rest) =
      is ∙ ap (λ (p : List Part). p ++ rest) (strip-sound path q r.0 r.1) ∙ append_assoc path r.0 rest in
      let no : None ≡ Some (r.0 ++ rest) = sym clear ∙ ap (strip path) whole ∙ strip-append path (r.0 ++ rest) in
      absurd cc
]

-- ---- where what it asks stays

-- what is asked of a fact
abbrev pub value_of : Option Fact → Bool
value_of None = false
value_of (Some f) = is_value_fact f

module _ (profile : Profile) (limit : ℕ) (other : List Part) (more : Value) (ms now : List Mention) where
  pub set_kept : has_value other now ≡ has_value other ms
      → ((q : List Part) (k : Part) (qs : List Part) → other ≡ q ++ k ∷ qs → is_bracket_at now q ≡ is_bracket_at ms q)
      → refusal_by profile limit ms (set other more) ≡ None → refusal_by profile limit now (set other more) ≡ None
  set_kept same brackets allowed =
      let was : IsSettable profile limit other more ms = settable profile limit other more ms allowed in
      let there : has_value other now ≡ true = same ∙ was.valued in
      unrefused profile limit other more now (record {
        node = node_alone other now (alone_of_has other now there);
        valued = there;
        shallow = omega (arith, count_same (is_bracket_at now) (is_bracket_at ms) other brackets, was.shallow);
        suits = was.suits;
      })

  pub facts_kept : ((q rest : List Part) → other ≡ q ++ rest → fact_at q now ≡ fact_at q ms)
      → refusal_by profile limit ms (set other more) ≡ None → refusal_by profile limit now (set other more) ≡ None
  facts_kept stays allowed =
      set_kept (ap value_of (stays other [] (sym (append-nil other))))
      (λ q k qs is. ap bracket_of (stays q (k ∷ qs) is)) allowed

-- ---- after a set

pub fact_stays : (profile : Profile) (limit : ℕ) (s : Document) (path : List Part) (value : Value) (q : List Part)
    → IsLawfulEdit profile limit s (set path value) → strip path q ≡ None
    → fact_at q (mentions_in (edited_document s (set path value))) ≡ fact_at q (mentions_in s)
fact_stays profile limit s path value q law e =
    law.tree q ∙ ap (fact_from (mentions_in s) (mentions_of_value value)) (by e)
  where
    by : strip path q ≡ None → source (mentions_in s) (set path value) q ≡ from q
    by e = rw (e, source) refl

pub set_allowed : (profile : Profile) (limit : ℕ) (s : Document) (path : List Part) (value : Value) (c : TextChange)
    (other : List Part) (more : Value) (d : TextChange)
    → IsEditable profile limit s → SetsValue profile limit s path value c → SetsValue profile limit s other more d
    → strip path other ≡ None → strip other path ≡ None
    → refusal profile limit (edited_document s (set path value)) (set other more) ≡ None
set_allowed profile limit s path value c other more d editable h g clear apart =
    facts_kept profile limit other more (mentions_in s) (mentions_in (edited_document s (set path value)))
    (λ q rest is. fact_stays profile limit s path value q
    (set_lawful profile limit s path value editable h.given h.allowed) (prefix_clear path other q rest clear is))
    g.allowed
