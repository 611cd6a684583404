-- The text of a station: the whole text, what `read` does with it, and what the inner steps of reading say.
pub mod Texts
pub mod Outcome
pub mod Says
pub mod Laws
