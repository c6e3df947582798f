-- `remove`, where it is not refused and no element of an array of tables begins at the path: there is a change, and it
-- is right.
--
-- Theorems: `remove_whole`: that; `removable`: a path where it is not refused is not the root, and is one piece.
use Rattle.std.proofs.Common.{◌≡◌, ℕ, Bool, true, false, not, ◌&&◌, ◌||◌, List, [], ◌∷◌, refl, ap, subst, Option, Some}
use Rattle.std.proofs.Common.{None, ◌⊎◌, inl, inr}
use Rattle.keep_types.specs.declared.leaf.Profile.{Profile}
use Rattle.keep_syntax.specs.Tree.{Document}
use Rattle.keep_syntax.specs.Grammar.{IsDocument}
use Rattle.keep_path.specs.Path.{Part}
use Rattle.keep_meaning.specs.Rules.{ObeysRules}
use Rattle.keep_meaning.specs.Marks.{MentionKind, define, Mention, start, marks}
use Rattle.keep_meaning.specs.Meaning.{lines, mentions_in}
use Rattle.keep_meaning.specs.Nodes.{is_root, is_node, has, is_define, is_through, is_begun, is_passed}
use Rattle.keep_edit_spec.specs.declared.fault.EditFault.TheVariants as fault
use Rattle.keep_edit_spec.specs.Changed.{Changed}
use Rattle.keep_edit_spec.specs.Lines.{last_line, begins, body_end}
use Rattle.keep_edit_spec.specs.Edits.{remove, change, end_of}
use Rattle.keep_edit_spec.specs.Refusals.{refusal, first_that_holds, has_value, is_one_piece}
use Rattle.keep_edit_spec.proofs.Common.Runs.{SomeOf, Rules, solid, exclusive}
use Rattle.keep_edit_spec.proofs.Common.SetLaw.{IsAloneAt}
use Rattle.keep_edit_spec.proofs.Common.SetWhole.{IsSetWhole, EachChange}
use Rattle.keep_edit_spec.proofs.Common.Marks.{rules_of_document}
use Rattle.keep_edit_spec.proofs.Common.ValueThere.{IsSome, the_some, alone_of_has}
use Rattle.keep_edit_spec.proofs.Common.BodyEnd.{end_is, stated_has}
use Rattle.keep_edit_spec.proofs.Common.Doubles.{has_some}
use Rattle.keep_edit_spec.proofs.Remove.RemoveLaw.{remove_key_is_right, remove_value_is_right}
use Rattle.keep_edit_spec.proofs.Remove.RemoveRefusal.{IsShared, no_both}
use Rattle.keep_edit_spec.proofs.Common.RemoveThere.{some_of_value}
use Rattle.keep_edit_spec.proofs.Common.TableThere.{defined_ends, some_of_table}

-- ---- a defined table has no value

define_solid : (a : MentionKind) → is_define a ≡ true → solid a ≡ true
define_solid define h = refl
define_solid other h = absurd cc

define_many : (a : MentionKind) → is_define a ≡ true → exclusive a ≡ true → ⊥
define_many define h g = absurd cc
define_many other h g = absurd cc

pub shared_define : IsShared is_define
shared_define = record { firm = define_solid; many = define_many }

-- ---- what is not refused

pub record IsRemovable (path : List Part) (ms : List Mention) : Type 0 where
  pub below_root : is_root path ≡ false
  pub piece : is_one_piece path ms ≡ true

pub removable : (profile : Profile) (limit : ℕ) (s : Document) (path : List Part)
    → refusal profile limit s (remove path) ≡ None → IsRemovable path (mentions_in s)
removable profile limit s path h =
    by (is_node path (mentions_in s)) (is_root path) (is_one_piece path (mentions_in s)) refl refl h
  where
    by : (a b c : Bool) → is_root path ≡ b → is_one_piece path (mentions_in s) ≡ c
        → first_that_holds ((not a, fault.NotFound) ∷ (b, fault.NotKey) ∷ (not c, fault.Scattered) ∷ []) ≡ None
        → IsRemovable path (mentions_in s)
    by false b c eb ec h = absurd cc
    by true true c eb ec h = absurd cc
    by true false false eb ec h = absurd cc
    by true false true eb ec h = record { below_root = eb; piece = ec }

pub two_pieces : (v d t b q : Bool) → (v || ((d && not t) || (b && not q))) ≡ true → b ≡ false
    → (v ≡ true) ⊎ ((d ≡ true) × (t ≡ false))
two_pieces true d t b q h e = inl refl
two_pieces false true false b q h e = inr (refl, refl)
two_pieces false true true false q h e = absurd cc
two_pieces false true true true q h e = absurd cc
two_pieces false false t false q h e = absurd cc
two_pieces false false t true q h e = absurd cc

-- ---- no header begins a body where a value is

other : (d b : Bool) → (d || b) ≡ true → b ≡ false → d ≡ true
other true b h e = refl
other false b h e = absurd cc

no_body : (s : Document) (path : List Part) → is_root path ≡ false → Rules (mentions_in s)
    → SomeOf (IsAloneAt path) (mentions_in s) → has is_begun path (mentions_in s) ≡ false
    → last_line (begins path) start (lines s) ≡ None
no_body s [] below rules alone plain = absurd cc
no_body s (p ∷ ps) below rules alone plain = by (last_line (begins (p ∷ ps)) start (lines s)) refl
  where
    by : (o : Option ℕ) → last_line (begins (p ∷ ps)) start (lines s) ≡ o
        → last_line (begins (p ∷ ps)) start (lines s) ≡ None
    by None e = e
    by (Some i) e =
        let here : end_of s (p ∷ ps) ≡ Some (body_end i (lines s)) =
        ap (λ (o : Option ℕ). elim o [ None ↦ None | Some i ↦ Some (body_end i (lines s)) ]) e in
        elim (end_is s (p ∷ ps) (body_end i (lines s)) here).stated [
          | inl root ↦ absurd cc
          | inr stated ↦
              (let defined : has is_define (p ∷ ps) (mentions_in s) ≡ true =
              other (has is_define (p ∷ ps) (mentions_in s)) (has is_begun (p ∷ ps) (mentions_in s))
              (stated_has (p ∷ ps) (mentions_in s) stated) plain in
              absurd (no_both is_define shared_define (p ∷ ps) (mentions_in s)
              (has_some is_define (p ∷ ps) (mentions_in s) defined) alone rules))
        ]

-- ---- the change

pub record IsRemovedWhole (profile : Profile) (s : Document) (path : List Part) : Type 0 where
  pub changed : Changed Document
  pub is : change s (remove path) ≡ Some changed
  pub whole : IsSetWhole profile s (remove path) changed

pub whole_of : (profile : Profile) (s : Document) (path : List Part) → IsSome (change s (remove path))
    → EachChange (IsSetWhole profile s (remove path)) (change s (remove path)) → IsRemovedWhole profile s path
whole_of profile s path there right =
    let (c, is) = the_some (change s (remove path)) there in
    record { changed = c; is = is; whole = subst (EachChange (IsSetWhole profile s (remove path))) is right }

pub remove_whole : (profile : Profile) (limit : ℕ) (s : Document) (path : List Part) → IsDocument profile s
    → ObeysRules (marks (mentions_in s)) → has is_begun path (mentions_in s) ≡ false
    → refusal profile limit s (remove path) ≡ None → IsRemovedWhole profile s path
remove_whole profile limit s path valid obeys plain allowed =
    let ms : List Mention = mentions_in s in
    let rules : Rules ms = rules_of_document s obeys in
    let h = removable profile limit s path allowed in
    elim (two_pieces (has_value path ms) (has is_define path ms) (has is_through path ms) (has is_begun path ms)
    (has is_passed path ms) h.piece plain) [
      | inl valued ↦
          (let alone : SomeOf (IsAloneAt path) ms = alone_of_has path ms valued in
          whole_of profile s path (some_of_value profile s path valid rules alone)
          (remove_value_is_right profile s path (no_body s path h.below_root rules alone plain) valid obeys))
      | inr table ↦
          (let defined = has_some is_define path ms table.0 in
          whole_of profile s path (some_of_table s path defined)
          (remove_key_is_right profile s path (defined_ends s path defined) valid obeys table.1))
    ]
