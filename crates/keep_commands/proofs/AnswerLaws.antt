-- What the answers to commands are, by what the document says.
--
-- A call answers with a fact about each tree that the document may have; the answer of a command speaks of one such
-- tree. Since the document is accepted there is one, and each law here takes it and states the fact of it: of the lines
-- of a list, a value's text, a string's meaning. A refusal is carried over in the same way, but for out of memory,
-- which is no refusal (`stated_edit`). Edits are the same for `apply` in both profiles (`Applies`): the answer is the
-- text after all of them, or the number of the one at which they stop (`stopped_at`).
--
-- Theorems: `listed`, `get_text`, `meant_text`, `apply_answer`; of refusals `read_refusal`, `get_refusal`.
use Rattle.std.proofs.Common.{◌≡◌, ◌∙◌, ◌++◌, ◌⊎◌, ℕ, Bool, true, false, List, [], ◌∷◌, map, Option, Some}
use Rattle.std.proofs.Common.{None, refl, sym, ap, subst, inl, inr, Vec, Global, String}
use Rattle.std.specs.Prelude.{Result, Ok, Err, IfOk, MatchResult, codes, string_bytes, filter, is_some}
use Rattle.std.specs.Option.{option_map}
use Rattle.std.specs.List.{list_any, filter_map}
use Rattle.keep_types.specs.declared.leaf.Profile.{Profile}
use Rattle.keep_syntax.specs.declared.fault.ReadFault.{ReadFault}
use Rattle.keep_syntax.specs.declared.fault.ReadFault.TheVariants as read
use Rattle.keep_syntax.specs.Tree.{Document}
use Rattle.keep_meaning.specs.Marks.{Mention, fact_of}
use Rattle.keep_meaning.specs.Meaning.{mentions_in}
use Rattle.keep_meaning.specs.Nodes.{is_at, is_node, fact_at, first_of, kind_at}
use Rattle.keep_path.specs.Path.{Part}
use Rattle.keep_types.specs.declared.node.Kind.{Kind}
use Rattle.keep_edit_spec.specs.declared.fault.EditFault.{EditFault}
use Rattle.keep_edit_spec.specs.declared.fault.EditFault.TheVariants as fault
use Rattle.keep_edit_spec.specs.Answers.{get, string_of, at_node}
use Rattle.keep_edit.specs.Answers.{counts_of, entries_of, kind_of, str_value_of}
use Rattle.keep_edit.specs.Reading.{ProfiledText, text_in, IsAccepted, IsRefused, IsTextOfTree}
use Rattle.keep_edit.specs.declared.document.Counts.{Counts}
use Rattle.keep_commands.specs.declared.command.Command.{Command}
use Rattle.keep_commands.specs.declared.command.Command.TheVariants.{Apply, ApplyWide, Check, CheckWide, Get}
use Rattle.keep_commands.specs.declared.command.Command.TheVariants.{List as Listing, Text}
use Rattle.keep_edit_plan.specs.declared.edit.Edit.{Edit}
use Rattle.keep_commands.specs.declared.fault.RunFault.{RunFault}
use Rattle.keep_commands.specs.declared.fault.RunFault.TheVariants as run
use Rattle.keep_edit.specs.Lists.{AreMade, IsRefusedAt, StopsAt}
use Rattle.keep_commands.specs.Answer.{counts_line, lines_of, IsText, IsEditRefusal, IsRefusal, of_read, of_edit}
use Rattle.keep_commands.specs.Answer.{Refused}
use Rattle.keep_commands.specs.Lines.{ListState}
use Rattle.keep_commands.specs.Written.{AreBytesOf, IsAfter, IsAnswer}
use Rattle.keep_commands.specs.declared.answer.Answer.TheVariants as answer
use Rattle.keep_commands.specs.declared.answer.Answer.{Answer}

-- ---- check, list, get

pub check_text : (d : ProfiledText) (out : List ℕ) (counts : Counts) → IsAccepted d
    → ((s : Document) → IsTextOfTree d s → counts ≡ counts_of s) → out ≡ counts_line counts → IsText Check d out
unfolding IsText
check_text d out counts (s, h) k e = (s, h, e ∙ ap counts_line (k s h))

pub wide_text : (d : ProfiledText) (out : List ℕ) (counts : Counts) → IsAccepted d
    → ((s : Document) → IsTextOfTree d s → counts ≡ counts_of s) → out ≡ counts_line counts → IsText CheckWide d out
unfolding IsText
wide_text d out counts (s, h) k e = (s, h, e ∙ ap counts_line (k s h))

pub list_answer : (d e : ProfiledText) (out : List ℕ) → e ≡ d
    → (s : Document) × IsTextOfTree e s × (out ≡ lines_of (entries_of s)) → IsText Listing d out
unfolding IsText
list_answer d e out same (s, h, is) = (s, subst (λ (t : ProfiledText). IsTextOfTree t s) same h, is)

pub listed : (c : Command) (input d : ProfiledText) (r : Result Answer RunFault) → c ≡ Listing → d ≡ input
    → MatchResult r (IsAnswer Listing d) (λ f. f ≡ run.Memory)
    → MatchResult r (IsAnswer c input) (λ f. (f ≡ run.Memory) ⊎ IsRefusal c input f)
listed c input d (Ok a) is same h =
    λ bytes are.
    subst (λ (k : Command). IsText k input bytes) (sym is)
    (subst (λ (t : ProfiledText). IsText Listing t bytes) same (h bytes are))
listed c input d (Err f) is same h = inl h

-- the lines as one text
pub lines_text : {E : Type 0} (l : ListState) (r : Result (String Global) E) → IsAccepted l.document
    → ((s : Document) → IsTextOfTree l.document s → IfOk r (λ t. string_bytes t ≡ lines_of (entries_of s)))
    → IfOk r (λ t. AreBytesOf (answer.Lines l) (string_bytes t))
lines_text l (Ok t) (s, h) k = (s, h, k s h)
lines_text l (Err e) (s, h) k = tt

pub get_text : (d : ProfiledText) (path : List Part) (value out : List ℕ) → IsAccepted d
    → ((s : Document) → IsTextOfTree d s → get path s ≡ Ok value) → out ≡ value ++ codes "\n" → IsText (Get path) d out
unfolding IsText
get_text d path value out (s, h) k e = (s, h, (value, k s h, e))

-- out of memory alone is no refusal
pub stated_edit : (number : ℕ) (f : EditFault) → (f ≡ fault.Memory) ⊎ (of_edit number f ≡ run.Edit number f)
stated_edit number fault.NotFound = inr refl
stated_edit number fault.Exists = inr refl
stated_edit number fault.NotValue = inr refl
stated_edit number fault.NotTable = inr refl
stated_edit number fault.NotKey = inr refl
stated_edit number fault.Scattered = inr refl
stated_edit number (fault.Conflict why) = inr refl
stated_edit number fault.TooDeep = inr refl
stated_edit number fault.Memory = inl refl
stated_edit number fault.Profile = inr refl

pub get_refusal : (d : ProfiledText) (path : List Part) (f : EditFault) → IsAccepted d
    → ((s : Document) → IsTextOfTree d s → get path s ≡ Err f)
    → (of_edit 0 f ≡ run.Memory) ⊎ IsRefusal (Get path) d (of_edit 0 f)
unfolding IsEditRefusal
get_refusal d path f (s, h) k = elim (stated_edit 0 f) [
  | inl m ↦ inl (ap (of_edit 0) m)
  | inr e ↦ inr (subst (λ (x : RunFault). IsRefusal (Get path) d x) (sym e) (refl, (s, h, k s h)))
]

pub read_refusal : (command : Command) (input : ProfiledText) (f : ReadFault) → IsRefused input f
    → (of_read f ≡ run.Memory) ⊎ IsRefusal command input (of_read f)
read_refusal command input f (inl m) = inl (ap of_read m)
read_refusal command input read.Memory (inr h) = inl refl
read_refusal command input (read.Utf8 at) (inr h) = inr h
read_refusal command input (read.Syntax at what) (inr h) = inr h
read_refusal command input (read.TooDeep at) (inr h) = inr h
read_refusal command input (read.Define at why) (inr h) = inr h

-- ---- text

-- nothing is said of a path that names no node
none_mentioned : (path : List Part) (ms : List Mention) → list_any (is_at path) ms ≡ false → filter (is_at path) ms ≡ []
none_mentioned path [] h = refl
none_mentioned path (m ∷ ms) h = by (is_at path m) refl (none_mentioned path ms)
  where
    by : (b : Bool) → is_at path m ≡ b → (list_any (is_at path) ms ≡ false → filter (is_at path) ms ≡ [])
        → filter (is_at path) (m ∷ ms) ≡ []
    by true e more = absurd (let no : true ≡ false = rw e at h in cc)
    by false e more = rw e (more (rw e at h))

a_node : (path : List Part) (ms : List Mention) (v : List ℕ) → string_of (fact_at path ms) ≡ Some v
    → is_node path ms ≡ true
a_node [] ms v h = refl
a_node (p ∷ ps) ms v h = by (list_any (is_at (p ∷ ps)) ms) refl
  where
    by : (b : Bool) → list_any (is_at (p ∷ ps)) ms ≡ b → is_node (p ∷ ps) ms ≡ true
    by true e = e
    by false e =
        let none : string_of (fact_at (p ∷ ps) ms) ≡ None =
        ap (λ (x : List Mention). string_of (first_of (filter_map fact_of (map (λ (m : Mention). m.kind) x))))
        (none_mentioned (p ∷ ps) ms e) in
        let no : None ≡ Some v = sym none ∙ h in
        absurd cc

pub meant_text : (d : ProfiledText) (path : List Part) (found : Option (String Global)) (text : String Global)
    → found ≡ Some text → IsAccepted d
    → ((s : Document) → IsTextOfTree d s → option_map string_bytes found ≡ str_value_of path s)
    → IsText (Text path) d (string_bytes text)
unfolding IsText
meant_text d path found text some (s, h) k =
    let is : string_of (fact_at path (mentions_in s)) ≡ Some (string_bytes text) =
    sym (k s h) ∙ ap (option_map string_bytes) some in
    (s, h, rw (a_node path (mentions_in s) (string_bytes text) is, at_node) (rw is refl))

-- where no node is
pub no_node : (d : ProfiledText) (path : List Part) (found : Option Kind) → is_some found ≡ false → IsAccepted d
    → ((s : Document) → IsTextOfTree d s → found ≡ kind_of path s) → IsRefusal (Text path) d (run.Edit 0 fault.NotFound)
unfolding IsEditRefusal
no_node d path found none (s, h) k = by (is_node path (mentions_in s)) refl
  where
    by : (b : Bool) → is_node path (mentions_in s) ≡ b → IsRefusal (Text path) d (run.Edit 0 fault.NotFound)
    by true e =
        absurd (let kind : found ≡ Some (kind_at path (mentions_in s)) = rw e at (k s h) in
        let no : true ≡ false = rw kind at none in cc)
    by false e = (refl, (s, h, rw (e, at_node) refl))

-- where something else is
pub no_string : (d : ProfiledText) (path : List Part) (found : Option Kind) (text : Option (String Global))
    → is_some found ≡ true → text ≡ None → IsAccepted d → ((s : Document) → IsTextOfTree d s → found ≡ kind_of path s)
    → ((s : Document) → IsTextOfTree d s → option_map string_bytes text ≡ str_value_of path s)
    → IsRefusal (Text path) d (run.Edit 0 fault.NotValue)
unfolding IsEditRefusal
no_string d path found text some none (s, h) k n = by (is_node path (mentions_in s)) refl
  where
    by : (b : Bool) → is_node path (mentions_in s) ≡ b → IsRefusal (Text path) d (run.Edit 0 fault.NotValue)
    by false e = absurd (let kind : found ≡ None = rw e at (k s h) in let no : false ≡ true = rw kind at some in cc)
    by true e =
        let is : string_of (fact_at path (mentions_in s)) ≡ None = sym (n s h) ∙ ap (option_map string_bytes) none in
        (refl, (s, h, rw (e, at_node) (rw is refl)))

-- ---- edits

-- an edit at which a list of edits stops is refused, or memory ran out
pub stopped_at : (s : Document) (edits : List Edit) (profile : Profile) (number : ℕ) (f : EditFault)
    → StopsAt s edits profile number f → Refused profile edits s (of_edit number f)
stopped_at s edits profile number f (inr full) = rw (full.memory) tt
stopped_at s edits profile number f (inl refused) = elim (stated_edit number f) [
  | inl m ↦ rw m tt
  | inr stated ↦ subst (λ (x : RunFault). Refused profile edits s x) (sym stated) refused
]

-- a command whose answer is the text after these edits
pub record Applies (c : Command) (v : Vec Edit Global) : Type 0 where
  pub text : (d : ProfiledText) (s : Document) (out : List ℕ) → IsTextOfTree d s
      → AreMade s v.items d (text_in d.profile out) → IsText c d out
  pub refusal : (d : ProfiledText) (s : Document) (number : ℕ) (f : EditFault) → IsTextOfTree d s
      → IsRefusedAt s v.items d.profile number f → IsEditRefusal c d number f

apply_text : (v : Vec Edit Global) (d : ProfiledText) (s : Document) (out : List ℕ) → IsTextOfTree d s
    → AreMade s v.items d (text_in d.profile out) → IsText (Apply v) d out
unfolding IsText
apply_text v d s out a k = (s, a, k)

apply_refusal : (v : Vec Edit Global) (d : ProfiledText) (s : Document) (number : ℕ) (f : EditFault) → IsTextOfTree d s
    → IsRefusedAt s v.items d.profile number f → IsEditRefusal (Apply v) d number f
unfolding IsEditRefusal
apply_refusal v d s number f a h = (s, a, h)

apply_wide_text : (v : Vec Edit Global) (d : ProfiledText) (s : Document) (out : List ℕ) → IsTextOfTree d s
    → AreMade s v.items d (text_in d.profile out) → IsText (ApplyWide v) d out
unfolding IsText
apply_wide_text v d s out a k = (s, a, k)

apply_wide_refusal : (v : Vec Edit Global) (d : ProfiledText) (s : Document) (number : ℕ) (f : EditFault)
    → IsTextOfTree d s → IsRefusedAt s v.items d.profile number f → IsEditRefusal (ApplyWide v) d number f
unfolding IsEditRefusal
apply_wide_refusal v d s number f a h = (s, a, h)

pub apply_applies : (v : Vec Edit Global) → Applies (Apply v) v
apply_applies v = record { text = apply_text v; refusal = apply_refusal v }

pub apply_wide_applies : (v : Vec Edit Global) → Applies (ApplyWide v) v
apply_wide_applies v = record { text = apply_wide_text v; refusal = apply_wide_refusal v }

refused_answer : (c : Command) (edits : List Edit) (v : Vec Edit Global) (d : ProfiledText) (s : Document)
    (f : RunFault) → Applies c v → edits ≡ v.items → IsTextOfTree d s → Refused d.profile edits s f
    → (f ≡ run.Memory) ⊎ IsRefusal c d f
refused_answer c edits v d s run.Memory applies e a h = inl refl
refused_answer c edits v d s (run.Edit number f) applies e a h =
    inr (applies.refusal d s number f a (subst (λ (x : List Edit). IsRefusedAt s x d.profile number f) e h))
refused_answer c edits v d s run.Read applies e a h = absurd h
refused_answer c edits v d s run.TooLong applies e a h = absurd h
refused_answer c edits v d s (run.Document f) applies e a h = absurd h
refused_answer c edits v d s (run.Write n) applies e a h = absurd h

-- what is answered of the document's tree
by_tree : (c : Command) (d : ProfiledText) (edits : List Edit) (v : Vec Edit Global) (r : Result Answer RunFault)
    (s : Document) → Applies c v → edits ≡ v.items → IsTextOfTree d s
    → MatchResult r (λ answer. IsAfter s edits d answer) (Refused d.profile edits s)
    → MatchResult r (IsAnswer c d) (λ f. (f ≡ run.Memory) ⊎ IsRefusal c d f)
by_tree c d edits v (Ok answer) s applies e h k =
    λ bytes are.
    applies.text d s bytes h (subst (λ (x : List Edit). AreMade s x d (text_in d.profile bytes)) e (k bytes are))
by_tree c d edits v (Err f) s applies e h k = refused_answer c edits v d s f applies e h k

pub apply_answer : (c : Command) (input d : ProfiledText) (edits : List Edit) (v : Vec Edit Global)
    (r : Result Answer RunFault) → Applies c v → edits ≡ v.items → d ≡ input → IsAccepted d
    → ((s : Document) → IsTextOfTree d s
    → MatchResult r (λ answer. IsAfter s edits d answer) (Refused d.profile edits s))
    → MatchResult r (IsAnswer c input) (λ f. (f ≡ run.Memory) ⊎ IsRefusal c input f)
apply_answer c input d edits v r applies e same (s, h) k =
    subst (λ (t : ProfiledText). MatchResult r (IsAnswer c t) (λ f. (f ≡ run.Memory) ⊎ IsRefusal c t f)) same
    (by_tree c d edits v r s applies e h (k s h))
