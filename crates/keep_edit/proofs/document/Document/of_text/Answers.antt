use Rattle.keep_edit.proofs.document.Document.of_text.Goals as goal

pub of_syntax-requires : goal.of_syntax-requires
of_syntax-requires c =
    let (d, reads, is) = rw c.as_str.ensures.value at c.in_ok-syntax.ensures.found in
    record { tree = d; reads = reads; is = is; of_text = rw c.as_str.ensures.value at c.in_ok-syntax.ensures.of_text }
