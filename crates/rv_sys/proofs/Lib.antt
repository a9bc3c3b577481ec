pub mod BytesOf
pub mod LastExit
