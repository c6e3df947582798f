-- What a `set` or a `rename` puts in its place has at least one byte, and so has what comes back after a remove that
-- leaves its line with the comment.
--
-- A `set` puts the given value there (`set_place`), and a valid value begins with a byte. A `rename` puts a key part
-- there (`rename_place`): a bare key is not empty, and the others have quotes (`key_has_bytes`). A remove that leaves
-- its line takes what the line says and the space after it (`page_takes`), and its change goes on to the end of the
-- line. So the comment and the newline come back, and a newline has a byte.
--
-- Theorems: `set_gives`, `rename_gives`, `clear_gives`: none of these changes is without new bytes; `key_has_bytes`.
use Rattle.std.proofs.Common.{◌≡◌, ℕ, suc, ◌+◌, ◌<◌, Bool, true, false, cond, List, [], ◌∷◌, ◌++◌, length, take, refl}
use Rattle.std.proofs.Common.{sym, ap, ap₂, subst, ◌∙◌, length-append, arith, Option}
use Rattle.std.specs.List.{AllByRecursion}
use Rattle.keep_types.specs.declared.leaf.Profile.{Profile}
use Rattle.keep_types.specs.declared.leaf.Profile.TheVariants.{Wide}
use Rattle.keep_token.specs.Encoded.{encoded_key, encoded_string, is_bare_text}
use Rattle.keep_syntax.specs.Grammar.{IsEnded}
use Rattle.keep_syntax.specs.Numbered as syntax
use Rattle.keep_syntax.specs.Tree.{Value, Line, Ended, Document, bom_leaves, text, text_of, value_text}
use Rattle.keep_path.specs.Path.{Part}
use Rattle.keep_meaning.specs.Meaning.{mentions_in}
use Rattle.keep_edit_spec.specs.Changed.{Changed, IsChangeOf, Place, place_of}
use Rattle.keep_edit_spec.specs.ClearedLines.{ClearsLine}
use Rattle.keep_edit_spec.specs.Edits.{changed_or_same, key_part, place, remove}
use Rattle.keep_edit_spec.specs.Laws.{IsEditable}
use Rattle.keep_edit_spec.specs.Lines.{Page, line_text}
use Rattle.keep_edit_spec.specs.Refusals.{has_value}
use Rattle.keep_edit_spec.specs.RenamedKeys.{RenamesKey}
use Rattle.keep_edit_spec.specs.SetValues.{SetsValue}
use Rattle.keep_edit_spec.specs.TextChanges.{TextChange}
use Rattle.keep_edit_spec.proofs.Common.DoneAtValue.{EachOf}
use Rattle.keep_edit_spec.proofs.Common.LineEnds.{newline_ends}
use Rattle.keep_edit_spec.proofs.Lists.LineCleared as line
use Rattle.keep_edit_spec.proofs.Lists.LineCleared.{in_page}
use Rattle.keep_edit_spec.proofs.Lists.Places.{width}
use Rattle.keep_edit_spec.proofs.Lists.RemovedPlaces.{IsCutAt, width_after}
use Rattle.keep_edit_spec.proofs.Lists.RenameAfterClear.{in_page_begins}
use Rattle.keep_edit_spec.proofs.Lists.RenameLineGone.{ended_here}
use Rattle.keep_edit_spec.proofs.Lists.SetPlaces.{past_line}
use Rattle.keep_edit_spec.proofs.Lists.SomeBytes.{rename_changes, value_has_bytes}
use Rattle.keep_edit_spec.proofs.Lists.WiderChanges.{new_long}
use Rattle.keep_edit_spec.proofs.Rename.RenamePlace.{IsRenamedIn, rename_place}
use Rattle.keep_edit_spec.proofs.Set.SetIsLawful.{settable}
use Rattle.keep_edit_spec.proofs.Values.ValuePlace.{set_place, value_of_path}

-- ---- a set

pub set_gives : (profile : Profile) (limit : ℕ) (s : Document) (path : List Part) (value : Value) (c : TextChange)
    → IsEditable profile limit s → SetsValue profile limit s path value c → c.new ≡ [] → ⊥
set_gives profile limit s path value c editable h none =
    let has : has_value path (mentions_in s) ≡ true =
    (settable profile limit path value (mentions_in s) h.allowed).valued in
    let (v, i, there) = value_of_path profile path s editable.valid editable.obeys has in
    let new : c.new ≡ value_text value =
    ap (λ (p : Place). p.new) (sym h.is ∙ set_place path value s v i editable.obeys has there.number there.info) in
    omega (
      arith,
      value_has_bytes Wide value h.given.valid,
      ap (λ (t : List ℕ). length t) (sym new ∙ none),
    )

-- ---- a rename

pub key_has_bytes : (t : List ℕ) → 0 < length (encoded_key t)
key_has_bytes t = by (is_bare_text t) refl
  where
    bare : (u : List ℕ) → is_bare_text u ≡ true → 0 < length u
    bare [] e = absurd cc
    bare (b ∷ u) e = omega arith

    by : (b : Bool) → is_bare_text t ≡ b → 0 < length (cond b t (encoded_string t))
    by true e = bare t e
    by false e = omega arith

pub rename_gives : (profile : Profile) (limit : ℕ) (s : Document) (path : List Part) (text : List ℕ) (c : TextChange)
    → IsEditable profile limit s → RenamesKey profile limit s path text c → c.new ≡ [] → ⊥
rename_gives profile limit s path text c editable h none =
    let (x, e) = rename_changes profile limit s path text editable h.allowed in
    let renamed : IsRenamedIn 0 path (key_part text).text (mentions_in s) (syntax.parts s) x =
    subst (EachOf (IsRenamedIn 0 path (key_part text).text (mentions_in s) (syntax.parts s))) e
    (rename_place path text s) in
    let new : c.new ≡ encoded_key text =
    ap (λ (p : Place). p.new) (sym h.is ∙ ap (λ (o : Option (Changed Document)). place_of (changed_or_same s o)) e)
    ∙ renamed.fresh in
    omega (arith, key_has_bytes text, ap (λ (t : List ℕ). length t) (sym new ∙ none))

-- ---- a remove that leaves its line

-- the change of a line, among the lines
page_takes : (first : List Ended) (e : Ended) (more : List Ended) (last : Line) (d : Changed Line)
    → (in_page first e more last d).old ≡ d.old
page_takes [] e more last d = refl
page_takes (x ∷ first) e more last d = page_takes first e more last d

pub clear_gives : (profile : Profile) (limit : ℕ) (s : Document) (path : List Part) (c : TextChange)
    → IsEditable profile limit s → ClearsLine profile limit s path c → c.new ≡ [] → ⊥
clear_gives profile limit s path c fine h none =
    let bom : List ℕ = text_of (bom_leaves s.bom) in
    let its : IsCutAt h.number s.ended = line.c profile limit s path c fine h in
    let bare : Changed Line = line.bare profile limit s path c fine h in
    let page : Changed Page = line.page profile limit s path c fine h in
    let at : (place s (remove path)).end ≡ length (bom ++ page.before) + length page.old =
    ap (λ (p : Place). p.end) (line.place_is profile limit s path c fine h) in
    let cut : IsChangeOf line_text its.here.line bare = line.bare_cut profile limit s path c fine h in
    let valid : IsEnded profile its.here =
    ended_here profile its.first its.here its.more
    (subst (λ (es : List Ended). AllByRecursion (IsEnded profile) es) its.was fine.valid.ended) in
    omega (
      arith,
      ap (λ (t : List ℕ). length t) none,
      new_long (text s) (place s (remove path)) c h.is (omega (arith, h.some)),
      h.is.end,
      h.ends,
      at,
      length-append bom page.before,
      in_page_begins its.first its.here its.more s.last bare,
      ap (λ (t : List ℕ). length t) (page_takes its.first its.here its.more s.last bare),
      ap₂ (λ (n : ℕ) (es : List Ended). width (take (suc n) es)) its.number its.was,
      width_after its.first its.here its.more,
      ap (λ (t : List ℕ). length t) (past_line its.here.line its.here.newline),
      length-append (line_text its.here.line) its.here.newline.text,
      ap (λ (t : List ℕ). length t) cut.was,
      length-append bare.before (bare.old ++ bare.after),
      length-append bare.old bare.after,
      (newline_ends its.here.newline.text valid.newline).0,
    )
