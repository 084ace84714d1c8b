-- The definitions of this crate.
pub mod Faults
pub mod Grammar
pub mod Rules
pub mod Refusing
pub use Rattle.sql_syntax.specs.Words
pub use Rattle.sql_syntax.specs.Tokens
pub use Rattle.sql_syntax.specs.Canonical
pub use Rattle.sql_syntax.specs.Strength
pub use Rattle.sql_syntax.specs.Phrases
pub use Rattle.sql_syntax.specs.CanonicalTokens
pub use Rattle.sql_syntax.specs.Queries
