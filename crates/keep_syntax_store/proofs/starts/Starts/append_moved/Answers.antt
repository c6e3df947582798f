use Rattle.std.proofs.Common.{◌≡◌, List, ℕ, ◌++◌, length, map, drop, refl, ap, ◌∙◌, inl, inr, arith}
use Rattle.std.specs.Prelude.{slice_range}
use Rattle.std.proofs.lemmas.Bool.Decides.{leb_tells}
use Rattle.keep_syntax_store.specs.Lifted.{moved}
use Rattle.keep_syntax_store.proofs.PastLaws.{range_clamped, stored_further}
use Rattle.keep_syntax_store.proofs.starts.Starts.append_moved.Goals as goal

pub returns : goal.returns
returns c =
    let f = moved c.args.old c.args.new in
    let before = c.args.self.now in
    let xs = c.args.other.now in
    let gap = c.end_of_gap-gap in
    let all : c.append_run.new.self ≡ before ++ map f (slice_range xs c.args.from c.min-to.result) =
    stored_further f before c.append_blocks.new.self c.append_run.new.self xs (drop gap.result xs) c.args.from
    gap.result c.min-to.result gap.ensures.from gap.ensures.to refl c.in_ok-append_blocks.ensures
    c.in_ok-append_run.ensures in
    all ∙ ap (λ (ys : List ℕ). before ++ map f ys) (elim (leb_tells (length xs) c.args.to) [
      | inl t ↦
          let e : c.min-to.result ≡ length xs = omega (arith, t.1, c.min-to.ensures, c.len.ensures) in
          ap (slice_range xs c.args.from) e ∙ range_clamped xs c.args.from c.args.to t.1
      | inr t ↦ ap (slice_range xs c.args.from) (omega (arith, t.1, c.min-to.ensures, c.len.ensures))
    ])
