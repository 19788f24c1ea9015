pub mod Claims
pub mod Closing
pub mod Lists
pub mod Rule
pub mod Shown
pub mod inner
pub use Rattle.board_seats.specs.Seats
pub use Rattle.graph_types.specs.declared.record
