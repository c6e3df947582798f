-- What the crates above build on, in one place: what edits make that come one after another, and what is known of a
-- document that was read.
pub use Rattle.keep_edit_runs.proofs.MadeLists.{applied_more, as_many, none_made, one_made, refused_as, zip_more}
pub use Rattle.keep_edit_runs.proofs.ReadLaws.{holds, was_read}
