-- What `put_item` does with an array, and `put_named` with braces: there is a change, the value is valid, and how deep
-- it gets.
--
-- Each of the two acts puts an entry before an item, after an entry, or into empty brackets. Four facts are shown of
-- each: which mentions come (`item_put`, `named_put`), that a change exists (`some_item`, `some_named`), that the value
-- stays valid (`valid_item`, `valid_named`), and that the value is no deeper than before or than one level around the
-- new one (`item_depth`, `named_depth`). The hard one is validity: the new entry takes over the comma and the gap of
-- the entry that it is put after (`valid_after`).
--
-- Theorems: `item_put`, `valid_item`, `item_depth` for arrays; `named_put`, `valid_named`, `named_depth` for braces.
use Rattle.std.proofs.Common.{◌≡◌, ℕ, zero, suc, ◌+◌, ◌-◌, ◌≤◌, Bool, true, false, List, [], ◌∷◌, ◌++◌, length, take}
use Rattle.std.proofs.Common.{refl, subst, arith, Option, Some, None, ◌⊎◌, inl, inr}
use Rattle.std.specs.Prelude.{codes, max}
use Rattle.keep_types.specs.declared.leaf.Profile.{Profile}
use Rattle.keep_types.specs.declared.leaf.Profile.TheVariants.{Strict, Wide}
use Rattle.keep_syntax.specs.Tree.{Gap, Name, named_leaves, comma_leaves, array, inline, Entries, none, entry, Value}
use Rattle.keep_syntax.specs.Tree.{text_of, entries_depth, value_depth}
use Rattle.keep_syntax.specs.Grammar.{AreEntries, IsValue, IsNamed, IsName, IsGap, Place, in_array, in_inline}
use Rattle.keep_path.specs.Path.{Part, index}
use Rattle.keep_meaning.specs.Meaning.{body_fact}
use Rattle.keep_edit_spec.specs.Look.{keys_in}
use Rattle.keep_edit_spec.specs.Changed.{Changed, within, or_else}
use Rattle.keep_edit_spec.specs.Values.{entry_prefix, entry_back, space, put_before, put_after, put_item, put_named}
use Rattle.keep_edit_spec.specs.Values.{leads_past, text_of_value}
use Rattle.keep_edit_spec.proofs.Common.SetLaw.{EachTo, to_within, to_or_else}
use Rattle.keep_edit_spec.proofs.Common.SetValid.{AreStill, comma_preserved}
use Rattle.keep_edit_spec.proofs.Common.ValueThere.{IsSome, some_within, some_first, some_second}
use Rattle.keep_edit_spec.proofs.Insert.PutIn.{IsPutIn, IsItemIn, size, item_before, few_items, IsPast, IsAfter}
use Rattle.keep_edit_spec.proofs.Insert.PutIn.{entry_after, to_either}

-- ---- which mentions come

pub record IsItemPut (new : Value) (n : ℕ) (old now : Value) : Type 0 where
  pub fact : body_fact now.body ≡ body_fact old.body
  pub item : IsItemIn new n 0 old.nested now.nested

pub record IsNamedPut (prefix : List Part) (name : Name) (new : Value) (old now : Value) : Type 0 where
  pub fact : body_fact now.body ≡ body_fact old.body
  pub put : IsPutIn (Some name) new 0 old.nested now.nested
  pub past : (old.nested ≡ none) ⊎ IsPast prefix put.before

-- into empty brackets
put_alone : (named : Option Name) (new : Value) (first : Gap)
    → IsPutIn named new 0 none (entry named new.body new.nested first None none)
put_alone named new first = record {
  number = 0;
  enough = omega arith;
  before = [];
  rest = none;
  was = refl;
  is = refl;
  stays = refl;
  disjoint = tt;
  valid = λ profile place h. tt;
}

pub item_put : (new : Value) (n : ℕ) (first : Gap) (nested : Entries) → n ≤ size nested
    → EachTo (IsItemPut new n (record { body = array first; nested = nested }))
    (put_item new (index n ∷ []) (record { body = array first; nested = nested }))
unfolding put_alone
item_put new n first none few =
    record { fact = refl; item = record { put = put_alone None new first; at = omega arith } }
item_put new n first (entry name body nested after comma rest) few =
    let es : Entries = entry name body nested after comma rest in
    to_within (IsItemIn new n 0 es) (IsItemPut new n (record { body = array first; nested = es }))
    (λ fs. record { body = array first; nested = fs }) (codes "[" ++ text_of first) (codes "]")
    (or_else (put_before n new es) (put_after [] None new es)) (λ fs h. record { fact = refl; item = h })
    (to_either (IsItemIn new n 0 es) (put_before n new es) (put_after [] None new es)
    (let e : 0 + n ≡ n = omega arith in
    subst (λ (m : ℕ). EachTo (IsItemIn new m 0 es) (put_before n new es)) e (item_before new 0 n es))
    (λ e. last (few_items new n es e) (put_after [] None new es) (entry_after [] None new 0 es)))
  where
    last : size (entry name body nested after comma rest) ≤ n → (o : Option (Changed Entries))
        → EachTo (IsAfter [] None new 0 (entry name body nested after comma rest)) o
        → EachTo (IsItemIn new n 0 (entry name body nested after comma rest)) o
    last less None h = tt
    last less (Some c) h = record { put = h.put; at = omega (arith, h.last refl, less, few) }

pub named_put : (name : List (List ℕ) → Name) (rest : ℕ) (new : Value) (path : List Part) (first : Gap)
    (nested : Entries)
    → EachTo (IsNamedPut (take (length path - rest) path) (name (keys_in path)) new
    (record { body = inline first; nested = nested }))
    (put_named name rest new path (record { body = inline first; nested = nested }))
named_put name rest new path first none =
    record { fact = refl; put = put_alone (Some (name (keys_in path))) new first; past = inl refl }
named_put name rest new path first (entry name' body nested after comma more) =
    let es : Entries = entry name' body nested after comma more in
    let prefix : List Part = take (length path - rest) path in
    to_within (IsAfter prefix (Some (name (keys_in path))) new 0 es)
    (IsNamedPut prefix (name (keys_in path)) new (record { body = inline first; nested = es }))
    (λ fs. record { body = inline first; nested = fs }) (codes "{" ++ text_of first) (codes "}")
    (put_after prefix (Some (name (keys_in path))) new es)
    (λ fs h. record { fact = refl; put = h.put; past = inr h.past })
    (entry_after prefix (Some (name (keys_in path))) new 0 es)

-- ---- a change exists

abbrev pub LeadsPast : List Part → Entries → Type 0
LeadsPast prefix none = ⊥
LeadsPast prefix (entry name body nested after comma rest) = (leads_past prefix name ≡ true) ⊎ LeadsPast prefix rest

some_when : {A : Type 0} (b : Bool) (c : A) → b ≡ true → IsSome {A = A} (elim b [ false ↦ None | true ↦ Some c ])
some_when true c e = tt
some_when false c e = absurd cc

pub some_after : (prefix : List Part) (named : Option Name) (new : Value) (es : Entries) → LeadsPast prefix es
    → IsSome (put_after prefix named new es)
some_after prefix named new none s = absurd s
some_after prefix named new (entry name body nested after comma rest) (inl e) =
    some_second (within (entry name body nested after comma)
    (entry_prefix name body nested ++ (text_of after ++ text_of (comma_leaves comma))) []
    (put_after prefix named new rest)) _
    (some_when (leads_past prefix name) _ e)
some_after prefix named new (entry name body nested after comma rest) (inr s) =
    let left : List ℕ = entry_prefix name body nested ++ (text_of after ++ text_of (comma_leaves comma)) in
    some_first (within (entry name body nested after comma) left [] (put_after prefix named new rest)) _
    (some_within (entry name body nested after comma) left [] (put_after prefix named new rest)
    (some_after prefix named new rest s))

pub some_item : (new : Value) (n : ℕ) (first : Gap) (nested : Entries)
    → IsSome (put_item new (index n ∷ []) (record { body = array first; nested = nested }))
some_item new n first none = tt
some_item new n first (entry name body nested after comma rest) =
    let es : Entries = entry name body nested after comma rest in
    some_within (λ fs. record { body = array first; nested = fs }) (codes "[" ++ text_of first) (codes "]")
    (or_else (put_before n new es) (put_after [] None new es))
    (some_second (put_before n new es) (put_after [] None new es) (some_after [] None new es (inl refl)))

pub some_named : (name : List (List ℕ) → Name) (rest : ℕ) (new : Value) (path : List Part) (first : Gap)
    (nested : Entries)
    → (nested ≡ none) ⊎ LeadsPast (take (length path - rest) path) nested
    → IsSome (put_named name rest new path (record { body = inline first; nested = nested }))
some_named name rest new path first none s = tt
some_named name rest new path first (entry name' body nested after comma more) (inl e) = absurd cc
some_named name rest new path first (entry name' body nested after comma more) (inr s) =
    let es : Entries = entry name' body nested after comma more in
    let prefix : List Part = take (length path - rest) path in
    some_within (λ fs. record { body = inline first; nested = fs }) (codes "{" ++ text_of first) (codes "}")
    (put_after prefix (Some (name (keys_in path))) new es)
    (some_after prefix (Some (name (keys_in path))) new es s)

-- ---- it is valid

-- what may be in brackets of this kind
record IsFit (profile : Profile) (place : Place) (named : Option Name) (new : Value) : Type 0 where
  nothing : IsGap profile place []
  blank : IsGap profile place space
  name : IsNamed profile place named
  value : IsValue profile new

valid_before : (profile : Profile) (place : Place) (new : Value) (m : ℕ) (es : Entries) → IsFit profile place None new
    → AreEntries profile place es → EachTo (AreStill profile place es) (put_before m new es)
valid_before profile place new m none fit h = tt
valid_before profile place new zero (entry name body nested after comma rest) fit h =
    record { entries = (fit.name, fit.value.body, fit.value.nested, fit.nothing, fit.blank, h); end = tt }
valid_before profile place new (suc m) (entry name body nested after comma rest) fit h =
    to_within (AreStill profile place rest) (AreStill profile place (entry name body nested after comma rest))
    (entry name body nested after comma)
    (entry_prefix name body nested ++ (text_of after ++ text_of (comma_leaves comma))) [] (put_before m new rest)
    (λ es k.
    record {
      entries = (h.0, h.1, h.2, h.3, comma_preserved profile place comma rest es k.end h.4, k.entries);
      end = tt;
    })
    (valid_before profile place new m rest fit h.5)

valid_after : (profile : Profile) (place : Place) (prefix : List Part) (named : Option Name) (new : Value)
    (es : Entries) → IsFit profile place named new → AreEntries profile place es
    → EachTo (AreStill profile place es) (put_after prefix named new es)
valid_after profile place prefix named new none fit h = tt
valid_after profile place prefix named new (entry name body nested after comma rest) fit h =
    let left : List ℕ = entry_prefix name body nested ++ (text_of after ++ text_of (comma_leaves comma)) in
    to_or_else (AreStill profile place (entry name body nested after comma rest))
    (within (entry name body nested after comma) left [] (put_after prefix named new rest)) _
    (to_within (AreStill profile place rest) (AreStill profile place (entry name body nested after comma rest))
    (entry name body nested after comma) left [] (put_after prefix named new rest)
    (λ es k.
    record {
      entries = (h.0, h.1, h.2, h.3, comma_preserved profile place comma rest es k.end h.4, k.entries);
      end = tt;
    })
    (valid_after profile place prefix named new rest fit h.5))
    (by (leads_past prefix name))
  where
    by : (b : Bool) → EachTo {A = Entries} (AreStill profile place (entry name body nested after comma rest)) (elim b [
      | false ↦ None
      | true ↦ Some (record {
        to = entry name body nested [] (Some space) (entry named new.body new.nested after comma rest);
        before = entry_prefix name body nested;
        old = [];
        new = codes ", " ++ (text_of (named_leaves named) ++ text_of_value new);
        after = entry_back after comma rest;
      })
    ])
    by false = tt
    by true =
        record {
          entries =
              (h.0, h.1, h.2, fit.nothing, fit.blank, (fit.name, fit.value.body, fit.value.nested, h.3, h.4, h.5));
          end = tt;
        }

fit_item : (profile : Profile) (new : Value) → IsValue profile new → IsFit profile in_array None new
fit_item profile new h = record { nothing = tt; blank = (refl, (omega arith, refl), tt, tt); name = tt; value = h }

fit_named : (profile : Profile) (name : Name) (new : Value) → IsName profile name → IsValue profile new
    → IsFit profile in_inline (Some name) new
fit_named Strict name new hn h = record { nothing = tt; blank = (refl, (omega arith, refl)); name = hn; value = h }
fit_named Wide name new hn h =
    record { nothing = tt; blank = (refl, (omega arith, refl), tt, tt); name = hn; value = h }

pub valid_item : (profile : Profile) (new : Value) (n : ℕ) (first : Gap) (nested : Entries) → IsValue profile new
    → IsValue profile (record { body = array first; nested = nested })
    → EachTo (IsValue profile) (put_item new (index n ∷ []) (record { body = array first; nested = nested }))
valid_item profile new n first none given valid =
    record { body = tt; nested = (tt, given.body, given.nested, valid.body, tt, tt) }
valid_item profile new n first (entry name body nested after comma rest) given valid =
    let es : Entries = entry name body nested after comma rest in
    let fit : IsFit profile in_array None new = fit_item profile new given in
    to_within (AreStill profile in_array es) (IsValue profile) (λ fs. record { body = array first; nested = fs })
    (codes "[" ++ text_of first) (codes "]")
    (or_else (put_before n new es) (put_after [] None new es))
    (λ fs k. record { body = valid.body; nested = k.entries })
    (to_or_else (AreStill profile in_array es) (put_before n new es) (put_after [] None new es)
    (valid_before profile in_array new n es fit valid.nested)
    (valid_after profile in_array [] None new es fit valid.nested))

pub valid_named : (profile : Profile) (name : List (List ℕ) → Name) (rest : ℕ) (new : Value) (path : List Part)
    (first : Gap) (nested : Entries) → IsName profile (name (keys_in path)) → IsValue profile new
    → IsValue profile (record { body = inline first; nested = nested })
    → EachTo (IsValue profile) (put_named name rest new path (record { body = inline first; nested = nested }))
valid_named profile name rest new path first none named given valid =
    record { body = nothing profile; nested = (named, given.body, given.nested, valid.body, tt, tt) }
  where
    nothing : (profile : Profile) → IsGap profile in_inline []
    nothing Strict = tt
    nothing Wide = tt
valid_named profile name rest new path first (entry name' body nested after comma more) named given valid =
    let es : Entries = entry name' body nested after comma more in
    let prefix : List Part = take (length path - rest) path in
    to_within (AreStill profile in_inline es) (IsValue profile) (λ fs. record { body = inline first; nested = fs })
    (codes "{" ++ text_of first) (codes "}")
    (put_after prefix (Some (name (keys_in path))) new es) (λ fs k. record { body = valid.body; nested = k.entries })
    (valid_after profile in_inline prefix (Some (name (keys_in path))) new es
    (fit_named profile (name (keys_in path)) new named given) valid.nested)

-- ---- how deep it gets

abbrev NoDeeper : Value → Entries → Entries → Type 0
NoDeeper new es fs = entries_depth fs ≤ max (entries_depth es) (value_depth new)

before_depth : (new : Value) (m : ℕ) (es : Entries) → EachTo (NoDeeper new es) (put_before m new es)
before_depth new m none = tt
before_depth new zero (entry name body nested after comma rest) = omega arith
before_depth new (suc m) (entry name body nested after comma rest) =
    to_within (NoDeeper new rest) (NoDeeper new (entry name body nested after comma rest))
    (entry name body nested after comma)
    (entry_prefix name body nested ++ (text_of after ++ text_of (comma_leaves comma))) [] (put_before m new rest)
    (λ es h. omega (arith, h)) (before_depth new m rest)

after_depth : (prefix : List Part) (named : Option Name) (new : Value) (es : Entries)
    → EachTo (NoDeeper new es) (put_after prefix named new es)
after_depth prefix named new none = tt
after_depth prefix named new (entry name body nested after comma rest) =
    let left : List ℕ = entry_prefix name body nested ++ (text_of after ++ text_of (comma_leaves comma)) in
    to_or_else (NoDeeper new (entry name body nested after comma rest))
    (within (entry name body nested after comma) left [] (put_after prefix named new rest)) _
    (to_within (NoDeeper new rest) (NoDeeper new (entry name body nested after comma rest))
    (entry name body nested after comma) left [] (put_after prefix named new rest)
    (λ es h. omega (arith, h)) (after_depth prefix named new rest))
    (by (leads_past prefix name))
  where
    by : (b : Bool) → EachTo {A = Entries} (NoDeeper new (entry name body nested after comma rest)) (elim b [
      | false ↦ None
      | true ↦ Some (record {
        to = entry name body nested [] (Some space) (entry named new.body new.nested after comma rest);
        before = entry_prefix name body nested;
        old = [];
        new = codes ", " ++ (text_of (named_leaves named) ++ text_of_value new);
        after = entry_back after comma rest;
      })
    ])
    by false = tt
    by true = omega arith

abbrev pub OneDeeper : Value → Value → Value → Type 0
OneDeeper new old now = value_depth now ≤ max (value_depth old) (suc (value_depth new))

pub item_depth : (new : Value) (n : ℕ) (first : Gap) (nested : Entries)
    → EachTo (OneDeeper new (record { body = array first; nested = nested }))
    (put_item new (index n ∷ []) (record { body = array first; nested = nested }))
item_depth new n first none = omega arith
item_depth new n first (entry name body nested after comma rest) =
    let es : Entries = entry name body nested after comma rest in
    to_within (NoDeeper new es) (OneDeeper new (record { body = array first; nested = es }))
    (λ fs. record { body = array first; nested = fs }) (codes "[" ++ text_of first) (codes "]")
    (or_else (put_before n new es) (put_after [] None new es)) (λ fs h. omega (arith, h))
    (to_or_else (NoDeeper new es) (put_before n new es) (put_after [] None new es) (before_depth new n es)
    (after_depth [] None new es))

pub named_depth : (name : List (List ℕ) → Name) (rest : ℕ) (new : Value) (path : List Part) (first : Gap)
    (nested : Entries)
    → EachTo (OneDeeper new (record { body = inline first; nested = nested }))
    (put_named name rest new path (record { body = inline first; nested = nested }))
named_depth name rest new path first none = omega arith
named_depth name rest new path first (entry name' body nested after comma more) =
    let es : Entries = entry name' body nested after comma more in
    let prefix : List Part = take (length path - rest) path in
    to_within (NoDeeper new es) (OneDeeper new (record { body = inline first; nested = es }))
    (λ fs. record { body = inline first; nested = fs }) (codes "{" ++ text_of first) (codes "}")
    (put_after prefix (Some (name (keys_in path))) new es) (λ fs h. omega (arith, h))
    (after_depth prefix (Some (name (keys_in path))) new es)
