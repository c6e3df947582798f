-- The edits of a script, element by element.
--
-- The elements are read in order. While each states an edit, the edits so far are those of the elements so far
-- (`entries_after`), and as many (`many_after`). An element that states none is the first such one, since those before
-- it state theirs (`first_fault`). So its fault is that of the whole script, unless memory runs out (`stops`). The
-- words of an element are the texts at `path` and at the key of the second word, if its op has one (`texts_ok`). All
-- this is about a tree of the script's text in Strict, and what holds of the tree holds of the text (`script_stated`).
-- A script for the profile Strict has values of Strict alone (`strict_script`), since each of its edits has
-- (`strict_edit`).
--
-- The array at `edit` is found once (`array_at`). Where it is not there the script has no elements (`none_stated`), and
-- an element that is not there has no op (`no_element`).
--
-- Theorems: `script_stated`: the text is a script with these edits, or the fault says why it is none; `stops`: the
-- fault is that of the first element that states no edit; `strict_script`: the values of a script for Strict.
use Rattle.std.proofs.Common.{◌≡◌, ◌+◌, ◌∙◌, ◌⊎◌, ℕ, suc, List, [], ◌∷◌, ◌++◌, length, Option, None, Some, ◌<◌, codes}
use Rattle.std.proofs.Common.{refl, sym, ap, ap₂, false, zero, subst, inl, inr, arith, Vec, Global}
use Rattle.std.specs.Option.{option_and_then}
use Rattle.std.specs.Prelude.{Result, Ok, Err, IfOk, IsErrAnd, MatchResult}
use Rattle.std.proofs.Math.Nat.{add-zero}
use Rattle.keep_types.specs.declared.leaf.Profile.{Profile}
use Rattle.keep_types.specs.declared.leaf.Profile.TheVariants.{Strict}
use Rattle.keep_syntax.specs.Tree.{Document}
use Rattle.keep_types.specs.declared.node.Kind.{Kind}
use Rattle.keep_path.specs.Path.{Part, index, key}
use Rattle.keep_meaning.specs.Meaning.{mentions_in}
use Rattle.keep_meaning.specs.Nodes.{is_node}
use Rattle.keep_edit_plan.specs.declared.edit.Edit.{Edit}
use Rattle.keep_edit.specs.Answers.{kind_of}
use Rattle.keep_edit.specs.Children.{child_count_of}
use Rattle.keep_edit.specs.NodeRefs.{FindsNode, IsNodeAt}
use Rattle.keep_edit.specs.declared.nodes.NodeRef.{NodeRef}
use Rattle.keep_edit.proofs.Shared.{no_string_there}
use Rattle.keep_args.specs.Wanted.{op_named}
use Rattle.keep_edit.specs.Reading.{ProfiledText, IsAccepted, IsTextOfTree, text_in}
use Rattle.keep_edit.specs.StrTexts.{text_of_str}
use Rattle.keep_cli.specs.declared.fault.UseFault.{UseFault}
use Rattle.keep_cli.specs.declared.fault.UseFault.TheVariants as fault
use Rattle.keep_args.specs.declared.subcommand.Op.{Op}
use Rattle.keep_args.specs.declared.subcommand.Op.TheVariants as op
use Rattle.keep_args.specs.declared.subcommand.Word.{Word}
use Rattle.keep_args.specs.declared.subcommand.Word.TheVariants as word
use Rattle.keep_args.specs.Table.{edit_words}
use Rattle.keep_commands.specs.OwnValues.{AreStrict}
use Rattle.keep_cli.specs.declared.script.Texts.{Texts}
use Rattle.keep_cli.specs.Script.{AreEntries, HasWords, IsEntry, IsNoEntry, IsScript, IsScriptFault, IsTreeFault}
use Rattle.keep_cli.specs.Script.{counted, edit_path, element_count, key_path, op_of}
use Rattle.keep_cli.specs.Script.{given, word_key}
use Rattle.keep_cli.specs.Scripting.{AreTexts, AreTextsOf, IsFaultAt, StatesEdits, third_key}
use Rattle.keep_cli.proofs.EditLaws.{strict_edit}

-- one element more tells one edit more
entries_more : (profile : Profile) (s : Document) (n : ℕ) (es : List Edit) (e : Edit) → AreEntries profile s n es
    → IsEntry profile s (n + length es) e → AreEntries profile s n (es ++ e ∷ [])
entries_more profile s n [] e are is = (subst (λ (m : ℕ). IsEntry profile s m e) (add-zero n) is, tt)
entries_more profile s n (x ∷ xs) e are is = (
  are.0,
  entries_more profile s (suc n) xs e are.1
      (subst (λ (m : ℕ). IsEntry profile s m e)
      (let many : n + suc (length xs) ≡ suc n + length xs = omega arith in many) is),
)

one_longer : (es : List Edit) (e : Edit) → length (es ++ e ∷ []) ≡ length es + 1
one_longer [] e = refl
one_longer (x ∷ xs) e = omega (arith, one_longer xs e)

pub many_after : (n : ℕ) (es new : List Edit) (e : Edit) → new ≡ es ++ e ∷ [] → length es ≡ n → length new ≡ n + 1
many_after n es new e is many = ap (λ (xs : List Edit). length xs) is ∙ one_longer es e ∙ ap (λ m. m + 1) many

pub entries_after : (profile : Profile) (s : Document) (n : ℕ) (es new : List Edit) (e : Edit) → new ≡ es ++ e ∷ []
    → length es ≡ n → AreEntries profile s 0 es → IsEntry profile s n e → AreEntries profile s 0 new
entries_after profile s n es new e is many are here =
    subst (λ (xs : List Edit). AreEntries profile s 0 xs) (sym is)
    (entries_more profile s 0 es e are
    (subst (λ (m : ℕ). IsEntry profile s m e) (let so : n ≡ 0 + length es = omega (arith, many) in so) here))

-- the first element that states no edit
first_fault : (profile : Profile) (s : Document) (count n : ℕ) (es : List Edit) (f : UseFault)
    → element_count s ≡ Some count → n < count → length es ≡ n → AreEntries profile s 0 es → IsFaultAt profile s n f
    → IsTreeFault profile s f
first_fault profile s count n es (fault.Entry m why) is lt many are (same, none) = (
  count,
  is,
  omega (arith, lt, same),
  record {
    before = es;
    many = many
        ∙ sym same;
    entries = are;
    fault = subst (λ (i : ℕ). IsNoEntry profile s i why) (sym same) none;
  },
)
first_fault profile s count n es fault.Shape is lt many are h = absurd h
first_fault profile s count n es (fault.Words e) is lt many are h = absurd h
first_fault profile s count n es (fault.Path at) is lt many are h = absurd h
first_fault profile s count n es (fault.Value f) is lt many are h = absurd h
first_fault profile s count n es (fault.Script f) is lt many are h = absurd h
first_fault profile s count n es fault.Memory is lt many are h = absurd h

stopped : (profile : Profile) (s : Document) (count n : ℕ) (es : List Edit) (f : UseFault)
    → element_count s ≡ Some count → n < count → length es ≡ n → AreEntries profile s 0 es
    → (f ≡ fault.Memory) ⊎ IsFaultAt profile s n f
    → (f ≡ fault.Memory) ⊎ IsTreeFault profile s f
stopped profile s count n es f is lt many are (inl memory) = inl memory
stopped profile s count n es f is lt many are (inr h) = inr (first_fault profile s count n es f is lt many are h)

-- what `?` passes up
pub stops : (profile : Profile) (s : Document) (count n : ℕ) (es : List Edit) (f : UseFault)
    (r : Result (Vec Edit Global) UseFault) → IsErrAnd r (λ e. e ≡ f) → element_count s ≡ Some count → n < count
    → length es ≡ n → AreEntries profile s 0 es
    → (f ≡ fault.Memory) ⊎ IsFaultAt profile s n f
    → MatchResult r (λ edits. StatesEdits profile s edits.items) (λ e. (e ≡ fault.Memory) ⊎ IsTreeFault profile s e)
stops profile s count n es f (Ok edits) same is lt many are h = absurd same
stops profile s count n es f (Err e) same is lt many are h =
    subst (λ (x : UseFault). (x ≡ fault.Memory) ⊎ IsTreeFault profile s x) (sym same)
    (stopped profile s count n es f is lt many are h)

-- where nothing is at `edit` there are no elements
none_counted : (keys : Option ℕ) (n : ℕ) → counted keys None None ≡ Some n → n ≡ 0
none_counted None n is = absurd cc
none_counted (Some zero) n is = let same : Some 0 ≡ Some n = is in cc
none_counted (Some (suc zero)) n is = absurd cc
none_counted (Some (suc (suc m))) n is = absurd cc

pub none_stated : (profile : Profile) (s : Document) (count : ℕ) → element_count s ≡ Some count
    → is_node edit_path (mentions_in s) ≡ false → StatesEdits profile s []
none_stated profile s count is none =
    let kind : kind_of edit_path s ≡ None = rw none refl in
    let many : child_count_of edit_path s ≡ None = rw none refl in
    let no : count ≡ 0 =
    none_counted (child_count_of [] s) count
    (ap₂ (λ (k : Option Kind) (m : Option ℕ). counted (child_count_of [] s) k m) (sym kind) (sym many) ∙ is) in
    record { count = is ∙ ap Some no; entries = tt }

-- the array that was found at `edit`, or none
pub array_at : (s : Document) (path : List Part) (o : Option NodeRef) (a : NodeRef) → FindsNode s path o
    → path ≡ edit_path → o ≡ Some a → IsNodeAt s edit_path a
array_at s path o a found same one =
    subst (λ (p : List Part). IsNodeAt s p a) same (subst (λ (x : Option NodeRef). FindsNode s path x) one found)

pub no_array : (s : Document) (path : List Part) (o : Option NodeRef) → FindsNode s path o → path ≡ edit_path
    → o ≡ None → is_node edit_path (mentions_in s) ≡ false
no_array s path o found same none =
    subst (λ (p : List Part). is_node p (mentions_in s) ≡ false) same
    (subst (λ (x : Option NodeRef). FindsNode s path x) none found)

-- ---- one element

-- an element that is not there has no op
pub no_element : (s : Document) (n : ℕ)
    → ((more : List Part) → is_node (edit_path ++ index n ∷ more) (mentions_in s) ≡ false) → op_of s n ≡ None
no_element s n none =
    ap (option_and_then op_named)
    (no_string_there (key_path n (codes "op")) s (none (key (codes "op") ∷ [])))

-- two words are at `path` and the third key
two_texts : (s : Document) (n : ℕ) (second : Word) (found : Option Texts) → AreTexts s n (Some (word_key second)) found
    → AreTextsOf s n (word.Path ∷ second ∷ []) found
two_texts s n second (Some texts) (many, path, third) = (many, (path, (third, tt)))
two_texts s n second None none = no
  where
    no : (words : List (List ℕ)) → HasWords s n (word.Path ∷ second ∷ []) words → ⊥
    no [] (many, given) = given
    no (a ∷ []) (many, given) = given.1
    no (a ∷ b ∷ []) (many, given) = none a b (many, given.0, given.1.0)
    no (a ∷ b ∷ c ∷ more) (many, given) = given.1.1

-- one word is at `path`
one_text : (s : Document) (n : ℕ) (first : Word) (found : Option Texts) → word_key first ≡ codes "path"
    → AreTexts s n None found → AreTextsOf s n (first ∷ []) found
one_text s n first (Some texts) at (many, path) =
    (many, (subst (λ (k : List ℕ). given s n k ≡ Some (text_of_str texts.path)) (sym at) path, tt))
one_text s n first None at none = no
  where
    no : (words : List (List ℕ)) → HasWords s n (first ∷ []) words → ⊥
    no [] (many, is) = is
    no (a ∷ []) (many, is) = none a [] (many, subst (λ (k : List ℕ). given s n k ≡ Some a) at is.0)
    no (a ∷ b ∷ more) (many, is) = is.1

texts_are : (s : Document) (n : ℕ) (o : Op) (found : Option Texts) → AreTexts s n (third_key (edit_words o)) found
    → AreTextsOf s n (edit_words o) found
texts_are s n op.Set found h = two_texts s n word.Value found h
texts_are s n op.Insert found h = two_texts s n word.Value found h
texts_are s n op.Rename found h = two_texts s n word.Key found h
texts_are s n op.Remove found h = one_text s n word.Path found refl h
texts_are s n op.Table found h = one_text s n word.Keys found refl h
texts_are s n op.Element found h = one_text s n word.Keys found refl h

pub texts_ok : {E : Type 0} (s : Document) (n : ℕ) (o : Op) (r : Result (Option Texts) E)
    → IfOk r (AreTexts s n (third_key (edit_words o))) → IfOk r (AreTextsOf s n (edit_words o))
texts_ok s n o (Ok found) h = texts_are s n o found h
texts_ok s n o (Err e) h = h

-- ---- the whole

no_tree : (profile : Profile) (bytes : List ℕ) (s : Document) (f : UseFault) → IsTextOfTree (text_in Strict bytes) s
    → IsTreeFault profile s f → IsScriptFault profile bytes f
no_tree profile bytes s fault.Shape read h = (s, read, h)
no_tree profile bytes s (fault.Entry n why) read h = (s, read, h)
no_tree profile bytes s (fault.Words e) read h = absurd h
no_tree profile bytes s (fault.Path at) read h = absurd h
no_tree profile bytes s (fault.Value f) read h = absurd h
no_tree profile bytes s (fault.Script f) read h = absurd h
no_tree profile bytes s fault.Memory read h = absurd h

of_tree : (profile : Profile) (bytes : List ℕ) (s : Document) (r : Result (Vec Edit Global) UseFault)
    → IsTextOfTree (text_in Strict bytes) s
    → MatchResult r (λ edits. StatesEdits profile s edits.items) (λ f. (f ≡ fault.Memory) ⊎ IsTreeFault profile s f)
    → MatchResult r (λ edits. IsScript profile bytes edits.items)
    (λ f. (f ≡ fault.Memory) ⊎ IsScriptFault profile bytes f)
of_tree profile bytes s (Ok edits) read stated =
    record { tree = s; read = read; count = stated.count; entries = stated.entries }
of_tree profile bytes s (Err f) read (inl memory) = inl memory
of_tree profile bytes s (Err f) read (inr fault) = inr (no_tree profile bytes s f read fault)

pub script_stated : (profile : Profile) (bytes : List ℕ) (d : ProfiledText) (r : Result (Vec Edit Global) UseFault)
    → d ≡ text_in Strict bytes → IsAccepted d
    → ((s : Document) → IsTextOfTree d s
    → MatchResult r (λ edits. StatesEdits profile s edits.items) (λ f. (f ≡ fault.Memory) ⊎ IsTreeFault profile s f))
    → MatchResult r (λ edits. IsScript profile bytes edits.items)
    (λ f. (f ≡ fault.Memory) ⊎ IsScriptFault profile bytes f)
script_stated profile bytes d r same (s, h) k =
    of_tree profile bytes s r (subst (λ (t : ProfiledText). IsTextOfTree t s) same h) (k s h)

-- ---- the profile of the values

strict_entries : (s : Document) (n : ℕ) (es : List Edit) → AreEntries Strict s n es → AreStrict es
strict_entries s n [] are = tt
strict_entries s n (e ∷ es) ((o, is, (words, has, made)), more) =
    (strict_edit o words e made, strict_entries s (suc n) es more)

pub strict_script : (bytes : List ℕ) (edits : List Edit) → IsScript Strict bytes edits → AreStrict edits
strict_script bytes edits script = strict_entries script.tree 0 edits script.entries
