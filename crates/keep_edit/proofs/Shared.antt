-- What the crates above build on, in one place: what a list of no edits makes; that there is no string where there is
-- no node.
pub use Rattle.keep_edit.proofs.FoldLaws.{nothing_made}
pub use Rattle.keep_edit.proofs.NodeRefLaws.{no_string_there}
