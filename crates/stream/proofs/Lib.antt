-- Laws of the buffers, of the stream, and of a block that is passed line by line.
pub mod BufferLaws
pub mod PassingLaws
pub mod ShortLaws
pub mod StreamLaws
