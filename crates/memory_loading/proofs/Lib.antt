-- A load over a desk's memory: entries passed one after the other, children read, the whole file.
pub mod Passes
pub mod Entered
pub mod Placed
pub mod HeldElements
pub mod WholeElements
pub mod LoadedFiles
