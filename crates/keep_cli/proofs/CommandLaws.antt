-- What is answered where a command is made of one edit, or a fault is passed up.
--
-- Theorems: `one_edit`: what holds of each list of this edit alone holds of the command that applies it; `passed_up`: a
-- fault is passed up as the call has it; `word_passed`: a word that can't be read is passed up as it is.
use Rattle.std.proofs.Common.{◌≡◌, ◌∙◌, ◌⊎◌, ℕ, List, ◌∷◌, [], map, length, get_or, string_bytes, ap, inl, inr, subst}
use Rattle.std.proofs.Common.{sym, arith, String, Vec, Global}
use Rattle.std.specs.Prelude.{Result, Ok, Err, MatchResult, IsErrAnd}
use Rattle.keep_edit_plan.specs.declared.edit.Edit.{Edit}
use Rattle.keep_commands.specs.declared.command.Command.{Command}
use Rattle.keep_commands.specs.declared.command.Command.TheVariants as command
use Rattle.keep_cli.specs.declared.fault.UseFault.{UseFault}
use Rattle.keep_cli.specs.declared.fault.UseFault.TheVariants.{Memory}
use Rattle.keep_types.specs.declared.leaf.Profile.{Profile}
use Rattle.keep_args.specs.declared.subcommand.Ask.{Ask}
use Rattle.keep_args.specs.declared.subcommand.Word.{Word}
use Rattle.keep_cli.specs.declared.edit.WordFault.{WordFault}
use Rattle.keep_cli.specs.declared.edit.WordFault.TheVariants as word_fault
use Rattle.keep_cli.specs.EditWords.{IsFirstUnreadable}
use Rattle.keep_cli.specs.Status.{of_word}
use Rattle.keep_cli.specs.Uses.{IsApplied}

-- the command of an edit is so where each list of this edit alone makes it so
pub one_edit : (Is : Command → Type 0) (Not : UseFault → Type 0) (e : Edit) (r : Result Command UseFault)
    → MatchResult r (IsApplied e) (λ f. f ≡ Memory)
    → ((edits : Vec Edit Global) → edits.items ≡ e ∷ [] → Is (command.Apply edits))
    → MatchResult r Is (λ f. (f ≡ Memory) ⊎ Not f)
one_edit Is Not e (Ok (command.Apply edits)) applied so = so edits applied
one_edit Is Not e (Ok command.Check) applied so = absurd applied
one_edit Is Not e (Ok command.CheckWide) applied so = absurd applied
one_edit Is Not e (Ok command.List) applied so = absurd applied
one_edit Is Not e (Ok (command.Get path)) applied so = absurd applied
one_edit Is Not e (Ok (command.Text path)) applied so = absurd applied
one_edit Is Not e (Ok (command.ApplyWide edits)) applied so = absurd applied
one_edit Is Not e (Err f) memory so = inl memory

-- a fault that `?` passes up is so where the fault of the call was
pub passed_up : (Is : Command → Type 0) (Was Not : UseFault → Type 0) (f : UseFault) (r : Result Command UseFault)
    → IsErrAnd r (λ e. e ≡ f) → (f ≡ Memory) ⊎ Was f → (Was f → Not f) → MatchResult r Is (λ e. (e ≡ Memory) ⊎ Not e)
passed_up Is Was Not f (Ok c) same was so = absurd same
passed_up Is Was Not f (Err e) same (inl memory) so = inl (subst (λ (x : UseFault). x ≡ Memory) (sym same) memory)
passed_up Is Was Not f (Err e) same (inr was) so = inr (subst Not (sym same) (so was))

-- a word that can't be read is passed up as it is
pub word_passed : (Is : Command → Type 0) (profile : Profile) (kinds : List Word) (words : List (List ℕ))
    (w : WordFault) (r : Result Command UseFault) → IsErrAnd r (λ e. e ≡ of_word w)
    → (w ≡ word_fault.Memory) ⊎ IsFirstUnreadable profile kinds words w
    → MatchResult r Is (λ e.
    (e ≡ Memory) ⊎ ((v : WordFault) × IsFirstUnreadable profile kinds words v × (e ≡ of_word v)))
word_passed Is profile kinds words w (Ok c) same was = absurd same
word_passed Is profile kinds words w (Err e) same (inl memory) = inl (same ∙ ap of_word memory)
word_passed Is profile kinds words w (Err e) same (inr unread) = inr (w, unread, same)

-- one word, as it is stored and as it is text
pub one_word : (words : List (String Global)) (first : String Global) (text : List ℕ) → length words ≡ 1
    → first ≡ get_or words 0 first → text ≡ string_bytes first → text ∷ [] ≡ map (λ s. string_bytes s) words
one_word [] first text many at is = absurd (omega (arith, many))
one_word (word ∷ []) first text many at is =
    ap (λ (t : List ℕ). t ∷ []) (is ∙ ap (λ (s : String Global). string_bytes s) at)
one_word (word ∷ other ∷ more) first text many at is = absurd (omega (arith, many))

-- what holds of a subcommand and its words
pub holds_of : (P : Ask → List (List ℕ) → Type 0) (a b : Ask) (words others : List (List ℕ)) → a ≡ b → others ≡ words
    → P b others → P a words
holds_of P a b words others same are h = subst (P a) are (subst (λ (x : Ask). P x others) (sym same) h)
