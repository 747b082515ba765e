-- B and V as sums over order records, gathered into cells in one pass, and group positions by those cells and the weights.
pub mod Counting
pub mod Gathering
pub mod Weighing
