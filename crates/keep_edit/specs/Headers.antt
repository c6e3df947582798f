-- The keys of the header of an append, as they are cited here.
pub use Rattle.keep_edit_plan.specs.Headers.{key_texts}
