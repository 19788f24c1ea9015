pub mod ApartLemmas
pub mod BegunLemmas
pub mod DeclarationLemmas
pub mod LongestLemmas
pub mod SignLemmas
