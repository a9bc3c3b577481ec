mod ReadEach
mod KindsTried
