-- Inserts of new keys that are not refused, wherever they write: which paths begin with that of the first new key.
--
-- The document says nothing at that path or under it (NewHolder), so no path of a node begins with it (`node_clear`).
-- Of two such inserts with other first new keys, neither first new key is below the other, since each comes right after
-- a node (`first_clear`). So the path of neither, nor a prefix of it, begins with the other's (`before_clear`).
--
-- Theorems: `first_path`, `goes`, `unsaid`, `node_clear`; `first_clear`, `other_clear`, `before_clear`; `any_keys`: an
-- insert that adds a line is one of new keys.
use Rattle.std.proofs.Common.{◌≡◌, ◌≢◌, ℕ, Bool, true, false, List, [], ◌∷◌, ◌++◌, length, map, drop, sym, ap, subst}
use Rattle.std.proofs.Common.{◌∙◌, None, inl, inr}
use Rattle.std.specs.List.{list_any}
use Rattle.keep_types.specs.declared.leaf.Profile.{Profile}
use Rattle.keep_syntax.specs.Tree.{Value, Document}
use Rattle.keep_path.specs.Path.{Part, key, strip}
use Rattle.keep_meaning.specs.Marks.{Mention}
use Rattle.keep_meaning.specs.Meaning.{mentions_in}
use Rattle.keep_meaning.specs.Nodes.{is_at, is_node}
use Rattle.keep_edit_spec.specs.AddedLines.{AddsLine, first_new}
use Rattle.keep_edit_spec.specs.DottedLines.{AddsDotted, AddsLineTo}
use Rattle.keep_edit_spec.specs.Edits.{insert}
use Rattle.keep_edit_spec.specs.Look.{holder}
use Rattle.keep_edit_spec.specs.Refusals.{refusal}
use Rattle.keep_edit_spec.specs.TextChanges.{TextChange}
use Rattle.keep_edit_spec.proofs.Common.Runs.{none_or_some, strip-sound}
use Rattle.keep_edit_spec.proofs.Insert.KeysAtEnd.{first_is, path_goes_on}
use Rattle.keep_edit_spec.proofs.Insert.NewPath.{IsNewPath, drop_prefix_parts, new_path}
use Rattle.keep_edit_spec.proofs.Remove.Shift.{disjoint_step}
use Rattle.keep_edit_spec.proofs.Lists.NewHolder.{clear_longer, no_node}
use Rattle.keep_edit_spec.proofs.Lists.Places.{item_none}
use Rattle.keep_edit_spec.proofs.Lists.SetAllowed.{prefix_clear}

-- An insert of one key or of several, which is not refused.
pub record InsertsKeys (profile : Profile) (limit : ℕ) (s : Document) (path : List Part)
    (value : Value) : Type 0 where
  pub text : List ℕ
  pub more : List (List ℕ)
  pub new : path ≡ holder path (mentions_in s) ++ map key (text ∷ more)
  pub allowed : refusal profile limit s (insert path value) ≡ None

abbrev pub line_keys : (profile : Profile) (limit : ℕ) (s : Document) (path : List Part) (value : Value)
    (c : TextChange) → AddsLine profile limit s path value c → InsertsKeys profile limit s path value
line_keys profile limit s path value c h =
    record { text = h.text; more = h.more; new = h.new; allowed = h.allowed }

abbrev pub dotted_keys : (profile : Profile) (limit : ℕ) (s : Document) (path : List Part) (value : Value)
    (c : TextChange) → AddsDotted profile limit s path value c → InsertsKeys profile limit s path value
dotted_keys profile limit s path value c h =
    record { text = h.text; more = h.more; new = h.new; allowed = h.allowed }

pub any_keys : (profile : Profile) (limit : ℕ) (s : Document) (path : List Part) (value : Value) (c : TextChange)
    (to : Bool) → AddsLineTo to profile limit s path value c → InsertsKeys profile limit s path value
any_keys profile limit s path value c true h = dotted_keys profile limit s path value c h
any_keys profile limit s path value c false h = line_keys profile limit s path value c h

module _ (profile : Profile) (limit : ℕ) (s : Document) (path : List Part) (value : Value)
    (h : InsertsKeys profile limit s path value) where
  abbrev ms : List Mention
  ms = mentions_in s

  abbrev a : List Part
  a = holder path ms

  abbrev first : List Part
  first = first_new s path

  pub first_path : first ≡ a ++ key h.text ∷ []
  first_path = first_is s path h.text h.more h.new

  pub goes : IsNewPath path ms
  goes = new_path profile limit ms path value (item_none path a h.text h.more h.new ms) h.allowed

  pub unsaid : list_any (is_at (a ++ key h.text ∷ [])) ms ≡ false
  unsaid =
      let rest : drop (length a) path ≡ map key (h.text ∷ h.more) =
      ap (drop (length a)) h.new ∙ drop_prefix_parts a (map key (h.text ∷ h.more)) in
      let both : key h.text ∷ map key h.more ≡ key goes.first ∷ map key goes.more = sym rest ∙ goes.rest in
      let same : h.text ≡ goes.first = cc in
      ap (λ (t : List ℕ). list_any (is_at (a ++ key t ∷ [])) ms) same ∙ goes.fresh

  -- no node begins with that path
  pub node_clear : (q : List Part) → is_node q ms ≡ true → strip first q ≡ None
  node_clear q node = elim (none_or_some (strip first q)) [
    | inl e ↦ e
    | inr r ↦
        let same : q ≡ (a ++ key h.text ∷ []) ++ r.0 =
        strip-sound first q r.0 r.1 ∙ ap (λ (p : List Part). p ++ r.0) first_path in
        let no : is_node q ms ≡ false =
        ap (λ (p : List Part). is_node p ms) same ∙ no_node s path a h.text h.more h.new unsaid r.0 in
        absurd cc
  ]

-- nor does the path of another first new key
pub first_clear : (profile : Profile) (limit : ℕ) (s : Document) (path : List Part) (value : Value)
    (other : List Part) (more : Value) → InsertsKeys profile limit s path value
    → InsertsKeys profile limit s other more → first_new s path ≢ first_new s other
    → strip (first_new s path) (first_new s other) ≡ None
first_clear profile limit s path value other more h g differs =
    let is : first_new s other ≡ holder other (mentions_in s) ++ key g.text ∷ [] =
    first_path profile limit s other more g in
    subst (λ (p : List Part). strip (first_new s path) p ≡ None) (sym is)
    (disjoint_step (first_new s path) (holder other (mentions_in s)) (key g.text)
    (node_clear profile limit s path value h (holder other (mentions_in s)) (goes profile limit s other more g).node)
    (λ e. differs (sym (is ∙ e))))

module _ (profile : Profile) (limit : ℕ) (s : Document) (path : List Part) (value : Value)
    (h : InsertsKeys profile limit s path value) (other : List Part) (more : Value)
    (g : InsertsKeys profile limit s other more) (differs : first_new s path ≢ first_new s other) where
  pub other_clear : strip (first_new s path) other ≡ None
  other_clear =
      subst (λ (p : List Part). strip (first_new s path) p ≡ None) (sym (path_goes_on s other g.text g.more g.new))
      (clear_longer (first_new s path) (first_new s other) (map key g.more)
      (first_clear profile limit s path value other more h g differs)
      (first_clear profile limit s other more path value g h (λ e. differs (sym e))))

  pub before_clear : (q rest : List Part) → other ≡ q ++ rest → strip (first_new s path) q ≡ None
  before_clear q rest is = prefix_clear (first_new s path) other q rest other_clear is
