pub mod Draws
pub mod Hands
pub mod inner
pub use Rattle.board_seats.specs.Seats
