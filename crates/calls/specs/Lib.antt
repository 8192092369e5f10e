-- What the theorems on networks, and the contracts of the calls, cite.
pub mod Networks
pub mod Boards
pub mod Running
pub mod Trails
pub mod Searching
pub mod Keeping
pub mod States
pub mod Refusals
pub mod Calls
pub mod Histories
