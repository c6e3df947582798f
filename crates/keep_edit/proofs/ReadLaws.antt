-- Reading a document: what is known of it then, and why it is refused.
--
-- Theorems: `read_once`: the syntax is that of the one tree that the text has; `holds`: what is known of a document
-- that is read; `not_utf8`: bytes that are not in UTF-8 are refused.
use Rattle.std.proofs.Common.{◌≡◌, ℕ, List, Err, ap, refl, sym, subst, ◌∙◌, inl, inr}
use Rattle.std.specs.Prelude.{IsUtf8}
use Rattle.std.specs.Str.{IsValidUpTo}
use Rattle.std.proofs.lemmas.Str.{utf8_valid_len-IsValidUpTo}
use Rattle.keep_types.specs.declared.leaf.Profile.{Profile}
use Rattle.keep_syntax.specs.declared.fault.ReadFault.{ReadFault}
use Rattle.keep_syntax.specs.declared.fault.ReadFault.TheVariants as fault
use Rattle.keep_syntax.specs.declared.syntax.Syntax.{Syntax}
use Rattle.keep_syntax.specs.Tree.{Document}
use Rattle.keep_syntax.specs.Grammar.{Reads}
use Rattle.keep_syntax.specs.Contract.{IsSyntaxOf}
use Rattle.keep_syntax.proofs.Shared.{one_document}
use Rattle.keep_rules.specs.ReadDocuments.{WasRead, IsIndexOf, IsRefusal}
use Rattle.keep_path.specs.NodeInfos.{NodeInfos}
use Rattle.keep_edit_runs.proofs.Shared as shared
use Rattle.keep_edit_runs.proofs.Shared.{was_read}
use Rattle.keep_edit.specs.Reading.{limit, text_in, IsRefused, IsSyntaxIn, IsTextOfTree, ReportsNoText, Holds}

-- the syntax is that of the one tree that the text has
pub read_once : {profile : Profile} {bytes : List ℕ} {syntax : Syntax} {s : Document}
    → IsSyntaxIn (text_in profile bytes) syntax → IsTextOfTree (text_in profile bytes) s → WasRead bytes syntax s
read_once {profile} {bytes} {syntax} {s} h read =
    let same : h.tree ≡ s =
    one_document profile h.tree s h.reads.valid read.reads.valid (sym h.reads.spelled ∙ read.reads.spelled) in
    was_read read.reads (subst (λ (d : Document). IsSyntaxOf syntax d) same h.is)

-- what is read
pub holds : (profile : Profile) (bytes : List ℕ) (syntax : Syntax) (index : NodeInfos) → IsUtf8 bytes
    → IsSyntaxIn (text_in profile bytes) syntax
    → ((d : Document) → WasRead bytes syntax d → IsIndexOf d index) → Holds (text_in profile bytes) syntax index
holds profile bytes syntax index utf8 h built =
    shared.holds profile bytes syntax index h.tree utf8 h.reads h.is h.of_text built

-- ---- why not

pub not_utf8 : (profile : Profile) (bytes : List ℕ) (at : ℕ) → ¬ (IsUtf8 bytes) → IsValidUpTo bytes at
    → IsRefused (text_in profile bytes) (fault.Utf8 at)
not_utf8 profile bytes at not prefix = inr (not, sym (utf8_valid_len-IsValidUpTo bytes at prefix))

pub reports_no_text : {T : Type 0} (bytes : List ℕ) (at : ℕ) → IsValidUpTo bytes at
    → ReportsNoText {T = T} bytes (Err (fault.Utf8 at))
reports_no_text bytes at prefix not =
    ap (λ (n : ℕ). Err (fault.Utf8 n)) (sym (utf8_valid_len-IsValidUpTo bytes at prefix))

by_rules : (profile : Profile) (bytes : List ℕ) (d : Document) (e : ReadFault) → IsUtf8 bytes
    → Reads profile limit bytes d → IsRefusal d e → IsRefused (text_in profile bytes) e
by_rules profile bytes d (fault.Define at why) utf8 reads h = inr (utf8, (d, reads, h))
by_rules profile bytes d fault.Memory utf8 reads h = inl refl
by_rules profile bytes d (fault.Syntax at what) utf8 reads h = absurd h
by_rules profile bytes d (fault.TooDeep at) utf8 reads h = absurd h
by_rules profile bytes d (fault.Utf8 at) utf8 reads h = absurd h

pub no_index : (profile : Profile) (bytes : List ℕ) (syntax : Syntax) (e : ReadFault) → IsUtf8 bytes
    → IsSyntaxIn (text_in profile bytes) syntax → ((d : Document) → WasRead bytes syntax d → IsRefusal d e)
    → IsRefused (text_in profile bytes) e
no_index profile bytes syntax e utf8 i h =
    by_rules profile bytes i.tree e utf8 i.reads (h i.tree (was_read i.reads i.is))
