pub mod HeadParsing
