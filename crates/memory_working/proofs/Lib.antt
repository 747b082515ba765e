-- Working an accepted event: what an acceptance tells, what is then stored, and that the view becomes the book's and stays sound.
pub mod AcceptedFacts
pub mod FirstRecord
pub mod StoreRuns
pub mod SettingWorked
pub mod Writes
pub mod Small
pub mod ViewWorked
pub mod SoundWorked
pub mod Rooms
pub mod LineFigures
pub mod Blocking
pub mod Handing
pub mod Changing
pub mod Filling
pub mod SumsMoved
pub mod Keeping
