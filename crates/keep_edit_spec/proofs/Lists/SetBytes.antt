-- A value that is set again, after other edits that are made at once with the first set of it: the bytes that the later
-- set replaces are those that the first one wrote.
--
-- The text after all of them is that after the others with the first set's change put in (`text_with_one`). The later
-- set's place is in that text, so the bytes that were put are at that place (`bytes_put`).
--
-- Theorem: `set_bytes`.
use Rattle.std.proofs.Common.{◌≡◌, ◌≤◌, ◌+◌, ◌++◌, ℕ, List, length, take, drop, All, refl, sym, ap, ◌∙◌}
use Rattle.std.proofs.Common.{arith, inl, inr, length-append, length-drop}
use Rattle.std.proofs.lemmas.List.{drop_at, length-take, length-take-le, take_at}
use Rattle.std.proofs.lemmas.List.Elements.{All-weaker}
use Rattle.keep_types.specs.declared.leaf.Profile.{Profile}
use Rattle.keep_syntax.specs.Tree.{Document, Value, text}
use Rattle.keep_path.specs.Path.{Part}
use Rattle.keep_edit_spec.specs.Changed.{put}
use Rattle.keep_edit_spec.specs.Edits.{set}
use Rattle.keep_edit_spec.specs.Laws.{IsEditable}
use Rattle.keep_edit_spec.specs.RunLists.{AreAtOnce, IsRunSetAgain, MadeEdit, changes_of, document_after, lines_of}
use Rattle.keep_edit_spec.specs.RunLists.{seen_of}
use Rattle.keep_edit_spec.specs.Runs.{IsRun}
use Rattle.keep_edit_spec.specs.SetValues.{SetsValue}
use Rattle.keep_edit_spec.specs.TextChanges.{IsBeside, TextChange, change_at, moved_by_all, moved_past, place_of_change}
use Rattle.keep_edit_spec.specs.TextChanges.{text_with}
use Rattle.keep_edit_spec.proofs.Lists.MadeChanges.{within_text}
use Rattle.keep_edit_spec.proofs.Lists.RunLists.{run_is_known}
use Rattle.keep_edit_spec.proofs.Lists.TextChanges.{text_with_one}

-- what was put is there, if its place is in the text
bytes_put : (old new : List ℕ) (c : TextChange) → new ≡ put old (place_of_change c)
    → c.at + length c.new ≤ length new → take (length c.new) (drop c.at new) ≡ c.new
bytes_put old new c is within =
    let a : List ℕ = take c.at old in
    let b : List ℕ = drop (c.at + c.size) old in
    let low : c.at ≤ length old =
    omega (
      arith,
      within,
      ap length is,
      length-append a (c.new ++ b),
      length-append c.new b,
      length-take c.at old,
      length-drop (c.at + c.size) old,
    ) in
    ap (λ (t : List ℕ). take (length c.new) (drop c.at t)) is
    ∙ ap (take (length c.new)) (drop_at a (c.new ++ b) c.at (length-take-le c.at old low))
    ∙ take_at c.new b (length c.new) refl

-- a change of the same bytes
beside_same : (x c d : TextChange) → c.at ≡ d.at → c.size ≡ d.size → IsBeside x c → IsBeside x d
beside_same x c d at size (inl ends) = inl (omega (arith, ends, at))
beside_same x c d at size (inr (less, ends)) = inr (omega (arith, less, at), omega (arith, ends, at, size))

pub set_bytes : (profile : Profile) (limit : ℕ) (s : Document) (ms : List MadeEdit) (path : List Part) (more : Value)
    (d : TextChange) → IsEditable profile limit s → AreAtOnce profile limit s ms → SetsValue profile limit s path more d
    → (r : IsRunSetAgain profile limit s ms path more d)
    → take (length r.c.new) (drop (moved_by_all (changes_of r.rest) d.at) (text (document_after s ms))) ≡ r.c.new
set_bytes profile limit s ms path more d fine h makes r =
    let run : IsRun profile limit s (seen_of s ms) (changes_of ms) (lines_of s ms) (document_after s ms) =
    run_is_known profile limit s ms fine h in
    let rest : List TextChange = changes_of r.rest in
    let first : d.at + d.size ≤ length (text s) = within_text profile limit s (set path more) d fine makes in
    let beside : All (λ x. IsBeside x r.c) rest =
    All-weaker (λ x. IsBeside x d) (λ x. IsBeside x r.c) (λ x. beside_same x d r.c (sym r.at) (sym r.size)) rest
    r.beside in
    let there : text (document_after s ms) ≡ put (text_with 0 (text s) rest) (place_of_change (moved_past rest r.c)) =
    run.text ∙ ap (text_with 0 (text s)) r.changes
    ∙ text_with_one (text s) rest r.c (omega (arith, first, r.at, r.size)) r.follow beside in
    let within : moved_by_all rest d.at + length r.c.new ≤ length (text (document_after s ms)) =
    within_text profile limit (document_after s ms) (set path more)
    (change_at (moved_by_all rest d.at) (length r.c.new) d.new) run.editable r.sets in
    let same : moved_by_all rest r.c.at ≡ moved_by_all rest d.at = ap (moved_by_all rest) r.at in
    ap (λ (n : ℕ). take (length r.c.new) (drop n (text (document_after s ms)))) (sym same)
    ∙ bytes_put (text_with 0 (text s) rest) (text (document_after s ms)) (moved_past rest r.c) there
    (omega (arith, within, same))
