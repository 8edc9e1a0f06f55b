-- What stands here is about how the code writes the document; nothing of it has to be believed.
pub mod Drawing
pub mod Rest
