-- The entries of a value: which of them a path goes through, and which go past it.
--
-- An entry mentions the dotted prefixes of its keys, and paths at or under its own. So where entries mention a path,
-- one of them is near it (`entries_near`): the path is at or under the entry's, or the entry's keys continue beyond the
-- path. Where the rules hold, each entry's path has the fact of a value (`entries_stated`, by induction over the
-- entries). An act does nothing in entries if its path is at or under none of theirs (`none_in_entries`). An entry
-- without a name has one index for its path, so it never continues beyond a path that is not empty (`never_index`). An
-- entry that does has a name, is found by the test `leads_past` (`past_entry`), and is in an inline table
-- (`past_named`).
--
-- Theorems: `entries_near`: one entry is near a path that the entries mention; `entries_stated`: each entry's path has
-- the fact of a value; `past_entry`: an entry that continues beyond a path leads past it.
use Rattle.std.proofs.Common.{◌≡◌, ℕ, ◌+◌, true, List, [], ◌∷◌, ◌++◌, map, refl, sym, ap, subst, ◌∙◌, Option, Some}
use Rattle.std.proofs.Common.{None, ◌⊎◌, inl, inr}
use Rattle.std.specs.Prelude.{⊤}
use Rattle.std.proofs.lemmas.List.{map-append, append-nil}
use Rattle.keep_types.specs.declared.leaf.Profile.{Profile}
use Rattle.keep_syntax.specs.Tree.{Name, named_leaves, opening, closing, comma_leaves, text_of, Entries, none, entry}
use Rattle.keep_syntax.specs.Grammar.{AreEntries, Place, in_scalar, in_array, in_inline}
use Rattle.keep_meaning.specs.Fact.{Fact, is_value_fact}
use Rattle.keep_path.specs.Path.{Part, key, index}
use Rattle.keep_meaning.specs.Marks.{value, item, Mention, below}
use Rattle.keep_meaning.specs.Meaning.{keys_of, body_fact, valued_mentions, keyed_mentions, entry_mentions}
use Rattle.keep_meaning.specs.Meaning.{entries_mentions, step}
use Rattle.keep_meaning.specs.Nodes.{fact_at}
use Rattle.keep_edit_spec.specs.Look.{strip}
use Rattle.keep_edit_spec.specs.Changed.{Changed, within, or_else}
use Rattle.keep_edit_spec.specs.Values.{Act, entry_prefix, entry_back, in_entries, leads_past}
use Rattle.keep_edit_spec.proofs.Common.Runs.{SomeOf, pairs_split, Allowed, Rules, strip-append}
use Rattle.keep_edit_spec.proofs.Common.SetLaw.{keyed_split}
use Rattle.keep_edit_spec.proofs.Common.ValueThere.{some_cases}
use Rattle.keep_edit_spec.proofs.Common.DoneAtValue.{value_fact-body, step_facts, further_facts}
use Rattle.keep_edit_spec.proofs.Common.Stops.{dotted_prefix}
use Rattle.keep_edit_spec.proofs.Insert.Gives.{IsNamedAt}
use Rattle.keep_edit_spec.proofs.Insert.LinesNamed.{named_unbelow}
use Rattle.keep_edit_spec.proofs.Insert.HolderThere.{all_dotted}
use Rattle.keep_edit_spec.proofs.Insert.PutValue.{LeadsPast}

abbrev pub SomeEntry : (ℕ → Option Name → Type 0) → ℕ → Entries → Type 0
SomeEntry P n none = ⊥
SomeEntry P n (entry name body nested after comma rest) = P n name ⊎ SomeEntry P (n + 1) rest

abbrev pub EachEntry : (ℕ → Option Name → Type 0) → ℕ → Entries → Type 0
EachEntry P n none = ⊤
EachEntry P n (entry name body nested after comma rest) = P n name × EachEntry P (n + 1) rest

pub each_map : (P Q : ℕ → Option Name → Type 0) → ((m : ℕ) (name : Option Name) → P m name → Q m name)
    → (n : ℕ) (es : Entries) → EachEntry P n es → EachEntry Q n es
each_map P Q f n none h = tt
each_map P Q f n (entry name body nested after comma rest) h = (f n name h.0, each_map P Q f (n + 1) rest h.1)

pub some_both : (P Q R : ℕ → Option Name → Type 0) → ((m : ℕ) (name : Option Name) → P m name → Q m name → R m name)
    → (n : ℕ) (es : Entries) → SomeEntry P n es → EachEntry Q n es → SomeEntry R n es
some_both P Q R f n none s h = absurd s
some_both P Q R f n (entry name body nested after comma rest) (inl s) h = inl (f n name s h.0)
some_both P Q R f n (entry name body nested after comma rest) (inr s) h = inr (some_both P Q R f (n + 1) rest s h.1)

-- ---- what names a path

pub data IsNear (x : List Part) (n : ℕ) (name : Option Name) : Type 0 where
  at_or_under : (r : List Part) → x ≡ step n name ++ r → IsNear x n name
  further : (b : Part) (bs : List Part) → step n name ≡ x ++ b ∷ bs → IsNear x n name

entry_near : (x : List Part) (n : ℕ) (name : Option Name) (f : Fact) (nested : List Mention)
    → SomeOf (IsNamedAt x) (entry_mentions n name f nested) → IsNear x n name
entry_near x n None f nested s =
    let (y, (e, g)) = named_unbelow (index n ∷ []) x (valued_mentions (item f) nested) s in at_or_under y e
entry_near x n (Some name) f nested s =
    let keys : List (List ℕ) = keys_of name.key in
    let vs : List Mention = valued_mentions (value f) nested in
    elim (some_cases (IsNamedAt x) (keyed_mentions keys []) (map (below (map key keys)) vs)
    (subst (SomeOf (IsNamedAt x)) (keyed_split keys vs) s)) [
      | inl own ↦
          (let g = dotted_prefix keys x (all_dotted x keys own) in
          further (key g.next) (map key g.more)
          (ap (map key) g.whole ∙ map-append key (g.first ∷ g.prefix) (g.next ∷ g.more)
          ∙ ap (λ (l : List Part). l ++ map key (g.next ∷ g.more)) (sym g.path)))
      | inr deep ↦ (let (y, (e, g)) = named_unbelow (map key keys) x vs deep in at_or_under y e)
    ]

pub entries_near : (x : List Part) (n : ℕ) (es : Entries) → SomeOf (IsNamedAt x) (entries_mentions n es)
    → SomeEntry (IsNear x) n es
entries_near x n none s = absurd s
entries_near x n (entry name body nested after comma rest) s =
    elim (some_cases (IsNamedAt x) (entry_mentions n name (body_fact body) (entries_mentions 0 nested))
    (entries_mentions (n + 1) rest) s) [
      | inl h ↦ inl (entry_near x n name (body_fact body) (entries_mentions 0 nested) h)
      | inr h ↦ inr (entries_near x (n + 1) rest h)
    ]

-- ---- the values of entries

pub record IsStated (p : List Part) (ms : List Mention) : Type 0 where
  pub fact : Fact
  pub is : fact_at p ms ≡ Some fact
  pub valued : is_value_fact fact ≡ true

pub entries_stated : (n : ℕ) (es : Entries) → Rules (entries_mentions n es)
    → EachEntry (λ m name. IsStated (step m name) (entries_mentions n es)) n es
entries_stated n none rules = tt
entries_stated n (entry name body nested after comma rest) rules =
    let first : List Mention = entry_mentions n name (body_fact body) (entries_mentions 0 nested) in
    let more : List Mention = entries_mentions (n + 1) rest in (
      record {
        fact = body_fact body;
        is = ap (λ (x : List Part). fact_at x (first ++ more)) (sym (append-nil (step n name)))
            ∙ step_facts n name body nested after comma rest rules [];
        valued = value_fact-body body;
      },
      each_map (λ m other. IsStated (step m other) more) (λ m other. IsStated (step m other) (first ++ more))
          (λ m other t. record {
            fact = t.fact;
            is = ap (λ (x : List Part). fact_at x (first ++ more)) (sym (append-nil (step m other)))
                ∙ further_facts n name body nested rest (step m other) t.fact rules t.is t.valued []
                ∙ ap (λ (x : List Part). fact_at x more) (append-nil (step m other)) ∙ t.is;
            valued = t.valued;
          }) (n + 1) rest (entries_stated (n + 1) rest (pairs_split Allowed first more rules).right),
    )

-- ---- nothing is done in them

pub none_in_entries : (act : Act) (path : List Part) (n : ℕ) (es : Entries)
    → EachEntry (λ m name. strip (step m name) path ≡ None) n es → in_entries act path n es ≡ None
none_in_entries act path n none h = refl
none_in_entries act path n (entry name body nested after comma rest) h =
    by (strip (step n name) path) h.0 (none_in_entries act path (n + 1) rest h.1)
  where
    by : (o : Option (List Part)) → o ≡ None → in_entries act path (n + 1) rest ≡ None
        → ◌≡◌ {A = Option (Changed Entries)} (elim o [
          | None ↦
              within (entry name body nested after comma)
              (entry_prefix name body nested ++ (text_of after ++ text_of (comma_leaves comma))) []
              (in_entries act path (n + 1) rest)
          | Some more ↦
              within (λ v. entry name v.body v.nested after comma rest) (text_of (named_leaves name))
              (entry_back after comma rest)
              (or_else (within (λ es. record { body = body; nested = es }) (text_of (opening body))
              (text_of (closing body))
              (in_entries act more 0 nested)) (act more (record { body = body; nested = nested })))
        ]) None
    by None e ih =
        ap (within (entry name body nested after comma)
        (entry_prefix name body nested ++ (text_of after ++ text_of (comma_leaves comma))) []) ih
    by (Some more) e ih = absurd cc

-- ---- an entry goes past a path

abbrev pub IsLonger : List Part → ℕ → Option Name → Type 0
IsLonger x n name = (b : Part) × (bs : List Part) × (step n name ≡ x ++ b ∷ bs)

pub never_index : (n : ℕ) (d : Part) (ds : List Part) (b : Part) (bs : List Part) → index n ∷ [] ≡ (d ∷ ds) ++ b ∷ bs
    → ⊥
never_index n d [] b bs e = absurd cc
never_index n d (x ∷ ds) b bs e = absurd cc

past_by : (d : Part) (ds : List Part) (n : ℕ) (name : Option Name) → IsLonger (d ∷ ds) n name
    → leads_past (d ∷ ds) name ≡ true
past_by d ds n None h = absurd (never_index n d ds h.0 h.1 h.2)
past_by d ds n (Some name) h =
    let e : strip (d ∷ ds) (step 0 (Some name)) ≡ Some (h.0 ∷ h.1) =
    ap (strip (d ∷ ds)) h.2 ∙ strip-append (d ∷ ds) (h.0 ∷ h.1) in
    rw (leads_past, e) refl

pub past_entry : (d : Part) (ds : List Part) (n : ℕ) (es : Entries) → SomeEntry (IsLonger (d ∷ ds)) n es
    → LeadsPast (d ∷ ds) es
past_entry d ds n none s = s
past_entry d ds n (entry name body nested after comma rest) (inl h) = inl (past_by d ds n name h)
past_entry d ds n (entry name body nested after comma rest) (inr s) = inr (past_entry d ds (n + 1) rest s)

-- which only entries with a name do
pub past_named : (profile : Profile) (place : Place) (d : Part) (ds : List Part) (n : ℕ) (es : Entries)
    → AreEntries profile place es → SomeEntry (IsLonger (d ∷ ds)) n es → place ≡ in_inline
past_named profile place d ds n none valid s = absurd s
past_named profile place d ds n (entry None body nested after comma rest) valid (inl h) =
    absurd (never_index n d ds h.0 h.1 h.2)
past_named profile in_inline d ds n (entry (Some name) body nested after comma rest) valid (inl h) = refl
past_named profile in_array d ds n (entry (Some name) body nested after comma rest) valid (inl h) = absurd valid.0
past_named profile in_scalar d ds n (entry (Some name) body nested after comma rest) valid (inl h) = absurd valid.0
past_named profile place d ds n (entry name body nested after comma rest) valid (inr s) =
    past_named profile place d ds (n + 1) rest valid.5 s
