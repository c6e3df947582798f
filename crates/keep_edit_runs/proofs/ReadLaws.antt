-- What is known of a document that was read.
use Rattle.std.proofs.Common.{ℕ, List}
use Rattle.std.specs.Prelude.{IsUtf8}
use Rattle.keep_types.specs.declared.leaf.Profile.{Profile}
use Rattle.keep_syntax.specs.declared.syntax.Syntax.{Syntax}
use Rattle.keep_syntax.specs.Tree.{Document}
use Rattle.keep_syntax.specs.Grammar.{Reads}
use Rattle.keep_syntax.specs.Contract.{IsSyntaxOf, IsTextOf}
use Rattle.keep_path.specs.NodeInfos.{NodeInfos}
use Rattle.keep_rules.specs.ReadDocuments.{WasRead, IsIndexOf}
use Rattle.keep_edit_plan.specs.Reading.{limit, text_in, Holds}

pub was_read : {profile : Profile} {bytes : List ℕ} {syntax : Syntax} {d : Document} → Reads profile limit bytes d
    → IsSyntaxOf syntax d → WasRead bytes syntax d
was_read {profile} reads is = record { profile = profile; limit = limit; reads = reads; is = is }

pub holds : (profile : Profile) (bytes : List ℕ) (syntax : Syntax) (index : NodeInfos) (d : Document) → IsUtf8 bytes
    → Reads profile limit bytes d → IsSyntaxOf syntax d → IsTextOf syntax bytes
    → ((s : Document) → WasRead bytes syntax s → IsIndexOf s index) → Holds (text_in profile bytes) syntax index
holds profile bytes syntax index d utf8 reads is of_text built =
    let i = built d (was_read reads is) in
    record {
      tree = d;
      read = record { utf8 = utf8; reads = reads; obeys = i.obeys };
      is = is;
      of_text = of_text;
      stated = i.facts;
      nested = i.nested;
    }
