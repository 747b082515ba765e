-- Laws of a file of limits: its layout can be read, and the sample is such a file.
pub mod LayoutReadable
pub mod SampleRead
